-- One text laid after another is one text. Assumes nothing.
use mathlib.Core.Path.{◌≡◌, sym, ap, ◌∙◌}
use mathlib.Core.List.{List, ◌++◌}
use Prim.Native.Nat.{ℕ}
use Rattle.text.specs.declared.Page.{Page}
use Rattle.text.specs.Page.{held, holding, lay}
use Rattle.text.proofs.Laws.{put-append}

pub lay-append : (xs ys : List ℕ) (k : Page) → lay (xs ++ ys) k ≡ lay ys (lay xs k)
lay-append xs ys k = ap (holding k) (put-append xs ys (held k))

-- one text, and then another
pub laid-onto : (xs ys : List ℕ) (k l m : Page) → l ≡ lay xs k → m ≡ lay ys l → m ≡ lay (xs ++ ys) k
laid-onto xs ys k l m e f = f ∙ ap (lay ys) e ∙ sym (lay-append xs ys k)
