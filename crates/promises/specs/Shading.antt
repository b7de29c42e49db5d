-- Document 02 g), 'The viewer wants to shade near ties', as statements: what a viewer may rely on of the picture that is answered of a column in a layer.
-- The size of a difference, `nat_abs`, is |difference|. Assumes nothing.
use Rattle.std.specs.Prelude.{ℕ, ◌+◌, ◌-◌, ◌*◌, ◌/◌, ◌%◌, ◌≤◌, ◌≡◌, ◌↔◌, ◌⊎◌, true, false, List, ℤ, pos, neg_ℤ, nat_abs, ◌+ℤ◌, ◌-ℤ◌, ◌≤ℤ◌, ◌<ℤ◌}
use Rattle.paper.specs.Layer.{inside_count, outside_count, share, filled, Between}
use Rattle.paper.specs.Limits.{most_thickness}
use Rattle.plate.specs.Refusal.{done}
use Rattle.column.specs.Picture.{picture_answer}
use Rattle.column.specs.declared.Judged.{Judged}

pub record Shades (N : ℕ) (bs : List ℕ) (z : ℤ) (t : ℕ) (judged : Judged) : Type 0 where
  -- filled and share as before, and 'the difference, inside minus outside, from -32 to 32'
  pub as-filled : judged.filled ≡ filled bs z t
  pub as-shared : judged.share ≡ share bs z t
  pub inside-minus-outside : judged.difference ≡ pos (inside_count bs z t) -ℤ pos (outside_count bs z t)
  pub small : nat_abs judged.difference ≤ most_thickness
  -- filled exactly where the difference is above 0
  pub filled-above : (judged.filled ≡ true) ↔ (pos 0 <ℤ judged.difference)
  -- it is 0 exactly at a tie: then the column is left unfilled, its share is half of the layer, and the thickness is even
  pub tie : (judged.difference ≡ pos 0) ↔ (inside_count bs z t ≡ outside_count bs z t)
  pub tied : judged.difference ≡ pos 0 → (judged.filled ≡ false) × (judged.share ≡ t / 2) × (t % 2 ≡ 0)
  -- share and difference tell each other's size
  pub shared : judged.share ≡ (t - nat_abs judged.difference) / 2
  pub whole : 2 * judged.share + nat_abs judged.difference ≡ t
  pub parity : nat_abs judged.difference % 2 ≡ t % 2
  -- from -t to t, and at an end exactly where no boundary lies strictly between z and z + t
  pub least : neg_ℤ (pos t) ≤ℤ judged.difference
  pub most : judged.difference ≤ℤ pos t
  pub sure : ((judged.difference ≡ neg_ℤ (pos t)) ⊎ (judged.difference ≡ pos t)) ↔ (Between bs z t → ⊥)
  -- a layer wholly under the plate or over it, which document 02 b) takes from sequences and not from pictures, leans to outside by all of its voxels
  pub under : (z +ℤ pos t) ≤ℤ pos 0 → judged.difference ≡ neg_ℤ (pos t)
  pub over : pos N ≤ℤ z → judged.difference ≡ neg_ℤ (pos t)

abbrev pub Shading : Type 0
Shading = (N T : ℕ) (bs : List ℕ) (z : ℤ) (t : ℕ) (judged : Judged) → picture_answer N T bs z t ≡ done judged → Shades N bs z t judged
