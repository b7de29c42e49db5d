-- Demand 2's first sentence as a statement: 'A layer's error is the count of Alexa, Hildebrand and Lefebvre: voxels wrongly filled or left out
-- under the best straight-walled picture.' Assumes nothing.
use Rattle.std.specs.Prelude.{ℕ, ◌≤◌, ◌≡◌, Bool, true, false, List, ℤ}
use Rattle.paper.specs.Layer.{Column, of_columns, wrong, wrongs, pictures}
use Rattle.plate.specs.Refusal.{done}
use Rattle.column.specs.Picture.{picture_answer}
use Rattle.column.specs.declared.Judged.{Judged}

-- the picture that is answered of a column in a layer, and its share: the share is the number of the picture's wrong voxels, neither picture
-- has fewer, and where both have as many the column is left out
pub record BestPicture (bs : List ℕ) (z : ℤ) (t : ℕ) (judged : Judged) : Type 0 where
  pub its : wrong judged.filled bs z t ≡ judged.share
  pub fewest : (fills : Bool) → judged.share ≤ wrong fills bs z t
  pub tie : wrong true bs z t ≡ wrong false bs z t → judged.filled ≡ false

pub record ErrorCounts : Type 0 where
  -- no picture of a layer has fewer wrong voxels than the layer's error
  pub fewest : (N T : ℕ) (columns : List Column) (fills : List Bool) (z : ℤ) (t : ℕ) → (of_columns N T columns).layer_error z t ≤ wrongs fills columns z t
  -- document 01's picture has just as many
  pub best : (N T : ℕ) (columns : List Column) (z : ℤ) (t : ℕ) → wrongs (pictures columns z t) columns z t ≡ (of_columns N T columns).layer_error z t
  -- and it is the one that is answered
  pub answered : (N T : ℕ) (bs : List ℕ) (z : ℤ) (t : ℕ) (judged : Judged) → picture_answer N T bs z t ≡ done judged → BestPicture bs z t judged
