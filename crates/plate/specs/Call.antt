-- What is told, and what the memory lent then holds: one record for every call, whatever it answers and whatever it writes into.
-- Assumes nothing.
use Rattle.std.specs.Prelude.{◌≡◌, List, ◌++◌}
use Rattle.lists.specs.Checks.{Check}
use Rattle.plate.specs.Refusal.{Told, Numbered, decided, after}

-- a call: its refusals in their order; where none of them holds, what it answers and what the memory then holds; what the memory held before
pub record Call (X B : Type 0) : Type 0 where
  pub checks : List (Check Numbered)
  pub value : X
  pub writes : B
  pub held : B

-- the same call with other refusals in front of its own
abbrev pub behind : {X B : Type 0} → List (Check Numbered) → Call X B → Call X B
behind before call = record { checks = before ++ call.checks; value = call.value; writes = call.writes; held = call.held }

-- THE ANSWER: the first of the refusals that holds, or the value
abbrev pub answer_of : {X B : Type 0} → Call X B → Told X
answer_of call = decided call.checks call.value

-- THE MEMORY: what the call writes, and on a refusal what was there
abbrev pub left_by : {X B : Type 0} → Call X B → B
left_by call = after (answer_of call) call.writes call.held

-- THE PROMISE of every call
pub record Does {X B : Type 0} (call : Call X B) (answer : Told X) (now : B) : Type 0 where
  pub tells : answer ≡ answer_of call
  pub leaves : now ≡ left_by call
