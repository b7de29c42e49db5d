-- What the planning program's buffers hold once a job is planned. Assumes nothing.
use Rattle.std.specs.Prelude.{ℕ, ◌≤◌, ◌≡◌, List, length, take, drop}
use Rattle.report.specs.Lines.{plan_text}

-- THE PROMISE of `plan_job`: what document 01 says of the first `count` bytes of the input stands at the front of the text
pub record Prints (input : List ℕ) (count : ℕ) (old : List ℕ) (answer : ℕ) (text : List ℕ) : Type 0 where
  -- a job of which as much was read as the input has room for prints what the bytes that were read print: no longer input is needed
  pub enough : (job : List ℕ) → take (length input) job ≡ take count input → plan_text job ≡ plan_text (take count input)
  -- the answer is the length of all that is printed, so that nothing is cut
  pub counts : answer ≡ length (plan_text (take count input))
  -- so many bytes lie in the text; the second follows from the first, and a caller's `&text[..answer]` is then proved with no file
  pub fits : answer ≤ length text
  pub front : answer ≡ length (take answer text)
  -- the text's front is exactly what is printed
  pub told : take answer text ≡ plan_text (take count input)
  -- and what stands past it is as it was
  pub kept : drop answer text ≡ drop answer old
