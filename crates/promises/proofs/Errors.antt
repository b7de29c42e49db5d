-- A layer's error is the fewest voxels that a picture can have wrong, by `paper`'s laws on pictures; what the call `picture` answers where it
-- is done is document 01's picture and share. Assumes nothing.
use mathlib.Core.Path.{◌≡◌, subst}
use mathlib.Core.List.{List}
use Prim.Native.Nat.{ℕ}
use lib.IntN.{ℤ}
use Rattle.lists.specs.Checks.{first}
use Rattle.paper.proofs.Pictures.{share-fewest, filled-fewest, tie-unfilled, shares-fewest, pictures-fewest}
use Rattle.plate.specs.Refusal.{done}
use Rattle.plate.proofs.Decided.{told-done}
use Rattle.column.specs.Picture.{picture_checks, judgement, picture_answer}
use Rattle.column.specs.declared.Judged.{Judged}
use Rattle.promises.specs.Errors.{BestPicture, ErrorCounts}

best-picture : (bs : List ℕ) (z : ℤ) (t : ℕ) → BestPicture bs z t (judgement bs z t)
best-picture bs z t = record { its = filled-fewest bs z t; fewest = λ fills. share-fewest fills bs z t; tie = tie-unfilled bs z t }

answered : (N T : ℕ) (bs : List ℕ) (z : ℤ) (t : ℕ) (judged : Judged) → picture_answer N T bs z t ≡ done judged → BestPicture bs z t judged
unfolding picture_answer
answered N T bs z t judged e =
    subst (BestPicture bs z t) (told-done (first (picture_checks N T bs z t)) (judgement bs z t) judged e).1 (best-picture bs z t)

pub error-counts : ErrorCounts
error-counts = record {
  fewest = λ N T columns fills z t. shares-fewest fills columns z t;
  best = λ N T columns z t. pictures-fewest columns z t;
  answered = answered;
}
