-- The rules that a piece of work is planned by. Assumes nothing.
use Rattle.sequence.specs.Sequence.{Rules}
use Rattle.plan.specs.Planning.{table_rules}
use Rattle.plan.specs.declared.Work.{Work}

abbrev pub rules_of : Work → Rules
rules_of w = table_rules w.settings w.bound w.table.now
