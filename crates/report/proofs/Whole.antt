-- What the program prints stands whole in its buffer: a text that is laid from the beginning of a buffer with room for it is all there, and
-- what stood past it stays. And one byte more than a job may have is enough to read: a longer job is refused whatever follows. Assumes nothing.
use mathlib.Core.Path.{◌≡◌, refl, sym, ap, ap₂, ◌∙◌}
use mathlib.Core.Bool.{Bool, true, false}
use mathlib.Core.List.{List, [], ◌∷◌}
use Prim.Native.Nat.{ℕ, ◌≤◌, ◌<◌}
use native.Mathlib.Omega.{arith}
use borrow.Author.Tests.{lt-ltb, le-ltb, ltb-true, ltb-false}
use lib.Dec.{ltb}
use lib.ListN.{length, take, drop, length-take}
use lib.Seq.{take_all}
use Rattle.text.specs.Sink.{Sink, sink, put, laid_over}
use Rattle.text.proofs.Laws.{put-start, length-laid, laid-whole}
use Rattle.load.specs.Load.{job_of}
use Rattle.report.specs.Lines.{most, most_text, refused_line, job_text, plan_text}
use Rattle.report.specs.Prints.{Prints}

-- ---- too many bytes, and few enough

pub long-is : (s : List ℕ) → most < length s → refused_line 17 0 ≡ plan_text s
unfolding plan_text
long-is s l = simp (lt-ltb most (length s) l)

pub short-is : (s : List ℕ) → length s ≤ most → job_text (job_of most s) ≡ plan_text s
unfolding plan_text
short-is s l = simp (le-ltb most (length s) l)

-- a job prints what its first 4,097 bytes print
first-bytes : (job s : List ℕ) → take 4_097 job ≡ s → plan_text job ≡ plan_text s
first-bytes job s e = go (ltb most (length job)) refl
  where
    go : (b : Bool) → ltb most (length job) ≡ b → plan_text job ≡ plan_text s
    go true f =
        let l = ltb-true most (length job) f in
        let m : most < length s = omega (arith, length-take 4_097 job, ap length e) in
        sym (long-is job l) ∙ long-is s m
    go false f =
        let l = ltb-false most (length job) f in
        ap plan_text (sym (take_all 4_097 job (omega arith)) ∙ e)

-- ---- a text in a buffer

laid-rest : (text old : List ℕ) → length text ≤ length old → drop (length text) (laid_over text old) ≡ drop (length text) old
unfolding laid_over
laid-rest [] old l = refl
laid-rest (b ∷ text) [] l = absurd (omega arith)
laid-rest (b ∷ text) (x ∷ old) l = laid-rest text old (omega arith)

module _ (input : List ℕ) (count : ℕ) (old : List ℕ) (wide : length input ≡ 4_097) (room : length old ≡ most_text) where
  -- what is put from the beginning, where it is what document 01 says
  pub prints : (t new : List ℕ) (r : ℕ) → length t ≤ most_text → sink r new ≡ put t (sink 0 old) → t ≡ plan_text (take count input) → Prints input count old r new
  prints t new r fits e f =
      let g = e ∙ put-start t old in
      let counted = ap (λ (k : Sink). k.at) g in
      let laid = ap (λ (k : Sink). k.bytes) g in
      let all : r ≡ length t = omega arith in
      let same : length new ≡ length old = ap length laid ∙ length-laid t old in
      record {
        enough = λ job h. first-bytes job (take count input) (rw wide at h);
        counts = all ∙ ap length f;
        fits = omega (arith, same);
        front = omega (arith, same, length-take r new);
        told = ap₂ take all laid ∙ laid-whole t old (omega arith) ∙ f;
        kept = ap₂ drop all laid ∙ laid-rest t old (omega arith) ∙ ap (λ (n : ℕ). drop n old) (sym all);
      }
