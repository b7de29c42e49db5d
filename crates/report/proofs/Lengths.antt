-- How long the text of a job is at most. A job whose sheets fit has at most 63 counts, a line of a count has at most 64 boundaries, and a
-- number at most 20 digits. Assumes nothing.
use mathlib.Core.Path.{◌≡◌, refl}
use mathlib.Core.Bool.{Bool, true, false, cond}
use mathlib.Core.List.{List, [], ◌∷◌, ◌++◌}
use mathlib.Core.Option.{Option, none, some}
use Prim.Native.Nat.{ℕ, zero, suc, ◌+◌, ◌*◌, ◌≤◌, ◌<◌}
use native.Mathlib.Omega.{arith}
use lib.Dec.{ltb}
use lib.IntN.{ℤ}
use lib.ListN.{length, length-append}
use Rattle.paper.specs.Layer.{Plate, of_columns}
use Rattle.paper.specs.Sequence.{M, error}
use Rattle.plate.specs.Refusal.{Told, done, refused}
use Rattle.text.specs.Numbers.{decimal, signed}
use Rattle.text.proofs.Lengths.{decimal-length, signed-length}
use Rattle.column.proofs.Fine.{settings-passed}
use Rattle.record.specs.Bytes.{Bytes}
use Rattle.job.specs.File.{Job}
use Rattle.load.specs.Load.{job_of}
use Rattle.load.proofs.Whole.{fitting}
use Rattle.meaning.specs.Working.{found}
use Rattle.meaning.proofs.Choice.{length-count, found-exact}
use Rattle.report.specs.Lines.{refused_word, at_word, height_word, columns_word, counts_word, none_word, space, line_end, most, most_text, refused_line, head_line, boundary_text, boundaries_text, none_line, sequence_line, count_line, count_lines, job_text, plan_text}
use Rattle.report.proofs.Printed.{few-counts}

record AtMost (n : ℕ) (text : List ℕ) : Type 0 where
  fits : length text ≤ n

-- two texts, one after the other
joined : {m n : ℕ} {xs ys : List ℕ} → AtMost m xs → AtMost n ys → AtMost (m + n) (xs ++ ys)
joined {xs = xs} {ys = ys} a b = record { fits = omega (arith, length-append xs ys, a.fits, b.fits) }

number : (n : ℕ) → AtMost 20 (decimal n)
number n = record { fits = decimal-length n }

word : (n : ℕ) (text : List ℕ) → length text ≤ n → AtMost n text
word n text l = record { fits = l }

refused-length : (r place : ℕ) → AtMost 53 (refused_line r place)
unfolding refused_line refused_word at_word line_end
refused-length r place = joined (word 8 refused_word (omega arith)) (joined (number r) (joined (word 4 at_word (omega arith)) (joined (number place) (word 1 line_end (omega arith)))))

head-length : (N columns counts : ℕ) → AtMost 85 (head_line N columns counts)
unfolding head_line height_word columns_word counts_word line_end
head-length N columns counts =
    joined (word 7 height_word (omega arith))
    (joined (number N)
    (joined (word 9 columns_word (omega arith)) (joined (number columns) (joined (word 8 counts_word (omega arith)) (joined (number counts) (word 1 line_end (omega arith)))))))

boundaries-length : (zs : List ℤ) → AtMost (length zs * 22) (boundaries_text zs)
unfolding boundaries_text boundary_text space
boundaries-length [] = record { fits = omega arith }
boundaries-length (z ∷ zs) =
    let a = joined (joined (word 1 space (omega arith)) (word 21 (signed z) (signed-length z))) (boundaries-length zs) in
    record { fits = omega (arith, a.fits) }

sequence-length : (n e : ℕ) (zs : List ℤ) → length zs ≤ 64 → AtMost 1450 (sequence_line n e zs)
unfolding sequence_line space line_end
sequence-length n e zs l =
    let b = boundaries-length zs in
    joined (number n) (joined (word 1 space (omega arith)) (joined (number e) (joined (word 1408 (boundaries_text zs) (omega (arith, b.fits))) (word 1 line_end (omega arith)))))

count-length : (p : Plate) (bound n : ℕ) → 1 ≤ n → n ≤ 63 → AtMost 1450 (count_line p n (found p bound n))
unfolding none_line none_word
count-length p bound n low high = go (found p bound n) refl
  where
    go : (o : Option (List ℤ)) → found p bound n ≡ o → AtMost 1450 (count_line p n o)
    go none e = let a = joined (number n) (word 6 none_word (omega arith)) in record { fits = omega (arith, a.fits) }
    go (some zs) e =
        let l = length-count n zs low ((found-exact p bound n low zs).1 e).counts in
        sequence-length n (error p zs) zs (omega arith)

lines-length : (line : ℕ → List ℕ) (n k : ℕ) → ((m : ℕ) → n < m → m ≤ n + k → AtMost 1450 (line m)) → AtMost (k * 1450) (count_lines line n k)
unfolding count_lines
lines-length line n zero e = record { fits = omega arith }
lines-length line n (suc k) e =
    let a = joined (e (suc n) (omega arith) (omega arith)) (lines-length line (suc n) k (λ m l u. e m (omega arith) (omega arith))) in
    record { fits = omega (arith, a.fits) }

-- the program's buffer has room for the text of a file that is too long
pub long-fits : length (refused_line 17 0) ≤ most_text
long-fits = omega (arith, (refused-length 17 0).fits)

module _ (s : List ℕ) (byte : Bytes s) where
  job-length : (file : Told Job) → job_of most s ≡ file → length (job_text file) ≤ most_text
  job-length (refused number place) e = omega (arith, (refused-length number place).fits)
  job-length (done job) e =
      let o = fitting most s byte job e in
      let N = job.asked.height in
      let T = job.asked.members in
      let k = few-counts N T (settings-passed N T o.ordered.bits o.ordered.fine) o.few-entries in
      let p = of_columns N T job.columns in
      let a = lines-length (λ n. count_line p n (found p job.asked.bound n)) 0 (M N T) (λ n l u. count-length p job.asked.bound n l (omega arith)) in
      omega (arith, (joined (head-length N (length job.columns) (M N T)) a).fits, k)

  -- for that of a file that is not
  pub file-fits : length (job_text (job_of most s)) ≤ most_text
  file-fits = job-length (job_of most s) refl

  -- and so for every text
  pub text-fits : length (plan_text s) ≤ most_text
  unfolding plan_text
  text-fits = go (ltb most (length s))
    where
      go : (b : Bool) → length (cond b (refused_line 17 0) (job_text (job_of most s))) ≤ most_text
      go true = long-fits
      go false = file-fits
