-- Rows and boundaries: a row's start is m - 1 below its number, so that the row which starts at a boundary b has the number b + m - 1, and
-- the rows below it from the number b on have a layer that reaches over b. Assumes nothing.
use Rattle.std.specs.Prelude.{ℕ, ◌+◌, ◌≤◌, ◌<◌, ◌≡◌, List, length, get_or}

-- the first k boundaries are at or below a row's start
pub record Under (bs : List ℕ) (m row k : ℕ) : Type 0 where
  pub are : (i : ℕ) → i < k → get_or bs i 0 + m ≤ row + 1

-- boundary k is the first one above a row's start, by so many voxels, and some layer of the row reaches over it
pub record Facing (bs : List ℕ) (m row k first : ℕ) : Type 0 where
  pub there : k < length bs
  pub under : Under bs m row k
  pub place : row + first + 1 ≡ get_or bs k 0 + m
  pub above : 1 ≤ first
  pub near : first < m

-- the rows from one on up to the one that starts at boundary k are near it, with the boundaries before it at or below the first of them
pub record Near (bs : List ℕ) (m from to k : ℕ) : Type 0 where
  pub there : k < length bs
  pub under : Under bs m from k
  pub place : to + 1 ≡ get_or bs k 0 + m
  pub near : get_or bs k 0 ≤ from
  pub order : from ≤ to

-- a way up the boundaries and the rows: the first k boundaries are done with, and the rows below this one
pub record Reached (bs : List ℕ) (m rows k row : ℕ) : Type 0 where
  pub few : k ≤ length bs
  pub low : row ≤ rows
  pub under : Under bs m row k
  pub next : k < length bs → row + 1 ≤ get_or bs k 0 + m
