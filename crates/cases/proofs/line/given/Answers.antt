-- What was found is the first colon, and what is laid are the characters from there on. Assumes nothing.
use Rattle.cases.proofs.Parts.{colon-is, given-is}
use Rattle.cases.proofs.line.given.Goals as goal

pub returns : goal.returns
returns c =
    let f = c.find-colon.ensures in
    given-is _ _ _ _ _ _ _
    (colon-is c.args.line.now c.find-colon.result f.lower_bound.1 f.result_value f.by_index)
    f.lower_bound.1 c.part.ensures c.lay-size.ensures.given_after c.lay-size.ensures.value c.part-2.ensures
