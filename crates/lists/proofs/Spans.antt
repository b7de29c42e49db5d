-- The loop that rewrites a span of a buffer front to back, for elements of any type. Before the first turn `span_none`; a turn
-- that stores is `span_set`, one that has nothing to store `span-keep`; row after row `span-row`; and the whole front of the buffer is
-- `rewritten` (`span-is`). The laws speak of places alone, so that no list is ever taken apart. Assumes nothing.
use mathlib.Core.Path.{◌≡◌, refl, sym, ap, ◌∙◌, subst}
use mathlib.Core.List.{List}
use mathlib.Core.Logic.{◌⊎◌, inl, inr}
use Prim.Native.Nat.{ℕ, ◌+◌, ◌-◌, ◌*◌, ◌≤◌, ◌<◌}
use native.Mathlib.Omega.{arith}
use native.Mathlib.Decide.{dec_lt, ℕ_discrete}
use lib.Arith.{digits_lt, digits_div, digits_mod}
use lib.ListN.{length, get_or, set, length-set}
use lib.Seq.{get_or-set_same, get_or-set_other}
use Rattle.lists.specs.Rewrite.{rewritten, Span}
use Rattle.lists.specs.Grid.{flat}
use Rattle.lists.proofs.Rewrite.{rewritten-is}

module _ {A : Type 0} {d : A} where
  pub span_none : (a : ℕ) (g : ℕ → A → A) (l : List A) → Span d a 0 g l l
  span_none a g l = record { long = refl; inside = λ m h. absurd (omega arith); below = λ i h. refl; above = λ i h. refl }

  -- what a turn reads is what stood there at first
  span-old : {a n : ℕ} {g : ℕ → A → A} {old new : List A} → Span d a n g old new → get_or new (a + n) d ≡ get_or old (a + n) d
  span-old {a} {n} s = s.above (a + n) (omega arith)

  pub span-unread : {a n : ℕ} {g : ℕ → A → A} {old new : List A} → Span d a n g old new → (i : ℕ) → i ≡ a + n → get_or new i d ≡ get_or old i d
  span-unread {a} {n} s i e = s.above i (omega arith)

  module _ {a n : ℕ} {g : ℕ → A → A} {old new : List A} (s : Span d a n g old new) where
    pub span-keep : g n (get_or new (a + n) d) ≡ get_or new (a + n) d → Span d a (n + 1) g old new
    span-keep e = record { long = s.long; inside = λ m h. go m h (ℕ_discrete m n); below = s.below; above = λ i h. s.above i (omega arith) }
      where
        go : (m : ℕ) → m < n + 1 → Dec (m ≡ n) → get_or new (a + m) d ≡ g m (get_or old (a + m) d)
        go m h (yes q) = rw q (sym e ∙ ap (g n) (span-old s))
        go m h (no q) = s.inside m (omega arith)

    -- i is the place of the turn, as the code has it
    pub span_set : (i : ℕ) (v : A) → i ≡ a + n → i < length new → v ≡ g n (get_or new i d) → Span d a (n + 1) g old (set new i v)
    span_set i v q r e = record {
      long = length-set new i v ∙ s.long;
      inside = λ m h. go m h (ℕ_discrete m n);
      below = λ j h. get_or-set_other new i j v d (λ x. omega arith) ∙ s.below j h;
      above = λ j h. get_or-set_other new i j v d (λ x. omega arith) ∙ s.above j (omega arith);
    }
      where
        go : (m : ℕ) → m < n + 1 → Dec (m ≡ n) → get_or (set new i v) (a + m) d ≡ g m (get_or old (a + m) d)
        go m h (yes w) =
            let u : a + m ≡ i = omega arith in
            rw u (get_or-set_same new i v d r ∙ e ∙ rw (q, w) (ap (g n) (span-old s)))
        go m h (no w) = get_or-set_other new i (a + m) v d (λ x. omega arith) ∙ s.inside m (omega arith)

    -- another rule that says the same
    pub span-as : (f : ℕ → A → A) → ((m : ℕ) → m < n → g m (get_or old (a + m) d) ≡ f m (get_or old (a + m) d)) → Span d a n f old new
    span-as f e = record { long = s.long; inside = λ m h. s.inside m h ∙ e m h; below = s.below; above = s.above }

  -- the whole front
  pub front-inside : {g : ℕ → A → A} {old new : List A} {n : ℕ} → Span d 0 n g old new → (i : ℕ) → i < n → get_or new i d ≡ g i (get_or old i d)
  front-inside {g} {old} {new} s i h = let e : 0 + i ≡ i = omega arith in subst (λ (j : ℕ). get_or new j d ≡ g i (get_or old j d)) e (s.inside i h)

  pub span-is : {g : ℕ → A → A} {old new : List A} (n k : ℕ) → Span d 0 n g old new → n ≤ k → k ≤ n → new ≡ rewritten g k old
  span-is {g} {old} {new} n k s l u =
      let e : n ≡ k = omega arith in
      rw (← e) (rewritten-is d g n old new s.long (λ i h r. front-inside s i h) (λ i h. s.above i (omega arith)))

  -- a row after the rows before it
  pub span-row : {w : ℕ} (G : ℕ → ℕ → A → A) {old mid new : List A} (r : ℕ)
      → Span d 0 (r * w) (flat w G) old mid → Span d (r * w) w (G r) mid new → Span d 0 ((r + 1) * w) (flat w G) old new
  span-row {w} G {old} {mid} {new} r s t = record {
    long = t.long ∙ s.long;
    inside = λ m h. let e : m ≡ 0 + m = omega arith in subst (λ (i : ℕ). get_or new i d ≡ flat w G m (get_or old i d)) e (go m h (dec_lt m (r * w)));
    below = λ i h. absurd (omega arith);
    above = λ i h. t.above i (omega arith) ∙ s.above i (omega arith);
  }
    where
      go : (m : ℕ) → m < (r + 1) * w → Dec (m < r * w) → get_or new m d ≡ flat w G m (get_or old m d)
      go m h (yes u) = t.below m u ∙ front-inside s m u
      go m h (no u) =
          let e : r * w + (m - r * w) ≡ m = omega arith in
          let l : m - r * w < w = omega arith in
          subst (λ (i : ℕ). get_or new i d ≡ flat w G i (get_or old i d)) e
          (t.inside (m - r * w) l ∙ ap (G r (m - r * w)) (s.above (r * w + (m - r * w)) (omega arith)) ∙ rw (digits_div r l, digits_mod r l))

  -- a loop's end
  pub span-end : {a n : ℕ} {g : ℕ → A → A} {old new : List A} (k : ℕ) → Span d a n g old new → n ≤ k → k ≤ n → Span d a k g old new
  span-end {a} {n} {g} {old} {new} k s l u = let e : n ≡ k = omega arith in rw e at s

  -- a part after the part before it
  pub span_more : {a n : ℕ} {g : ℕ → A → A} {old mid new : List A} (b m : ℕ) → b ≡ a + n
      → Span d a n g old mid → Span d b m (λ k. g (n + k)) mid new → Span d a (n + m) g old new
  span_more {a} {n} {g} {old} {mid} {new} b m e s t = record {
    long = t.long ∙ s.long;
    inside = λ k h. go k h (dec_lt k n);
    below = λ i h. t.below i (omega arith) ∙ s.below i h;
    above = λ i h. t.above i (omega arith) ∙ s.above i (omega arith);
  }
    where
      go : (k : ℕ) → k < n + m → Dec (k < n) → get_or new (a + k) d ≡ g k (get_or old (a + k) d)
      go k h (yes u) = t.below (a + k) (omega arith) ∙ s.inside k u
      go k h (no u) =
          let p : b + (k - n) ≡ a + k = omega arith in
          let q : n + (k - n) ≡ k = omega arith in
          subst (λ (i : ℕ). get_or new i d ≡ g k (get_or old i d)) p
          (t.inside (k - n) (omega arith) ∙ ap (λ (i : ℕ). g i (get_or mid (b + (k - n)) d)) q ∙ ap (g k) (s.above (b + (k - n)) (omega arith)))

  -- what stands past the turns that were made is already what the rule makes of it: the rest of a span needs no turn
  pub span_rest : {a n : ℕ} {g : ℕ → A → A} {old new : List A} (k : ℕ) → Span d a n g old new → n ≤ k
      → ((m : ℕ) → n ≤ m → m < k → g m (get_or new (a + m) d) ≡ get_or new (a + m) d) → Span d a k g old new
  span_rest {a} {n} {g} {old} {new} k s l e = record {
    long = s.long;
    inside = λ m h. go m h (dec_lt m n);
    below = s.below;
    above = λ i h. s.above i (omega arith);
  }
    where
      go : (m : ℕ) → m < k → Dec (m < n) → get_or new (a + m) d ≡ g m (get_or old (a + m) d)
      go m h (yes u) = s.inside m u
      go m h (no u) = sym (e m (omega arith) h) ∙ ap (g m) (s.above (a + m) (omega arith))

  -- a span within a wider one, where the wider one's rule leaves all else as it is
  pub span-within : {a b n : ℕ} {g : ℕ → A → A} {old new : List A} (k : ℕ) (f : ℕ → A → A) → Span d b n g old new → a ≤ b → b + n ≤ a + k
      → ((m : ℕ) → m < k → (a + m < b) ⊎ (b + n ≤ a + m) → f m (get_or old (a + m) d) ≡ get_or old (a + m) d)
      → ((m : ℕ) → m < n → f (b - a + m) (get_or old (b + m) d) ≡ g m (get_or old (b + m) d)) → Span d a k f old new
  span-within {a} {b} {n} {g} {old} {new} k f s l u out inside = record {
    long = s.long;
    inside = λ m h. go m h (dec_lt (a + m) b) (dec_lt (a + m) (b + n));
    below = λ i h. s.below i (omega arith);
    above = λ i h. s.above i (omega arith);
  }
    where
      go : (m : ℕ) → m < k → Dec (a + m < b) → Dec (a + m < b + n) → get_or new (a + m) d ≡ f m (get_or old (a + m) d)
      go m h (yes x) y = s.below (a + m) x ∙ sym (out m h (inl x))
      go m h (no x) (no y) = s.above (a + m) (omega arith) ∙ sym (out m h (inr (omega arith)))
      go m h (no x) (yes y) =
          let p : b + (a + m - b) ≡ a + m = omega arith in
          let q : b - a + (a + m - b) ≡ m = omega arith in
          let e = s.inside (a + m - b) (omega arith) ∙ sym (inside (a + m - b) (omega arith)) in
          subst (λ (i : ℕ). get_or new i d ≡ f m (get_or old i d)) p (e ∙ ap (λ (i : ℕ). f i (get_or old (b + (a + m - b)) d)) q)

  -- a span rewritten, and then again
  pub span-again : {a n : ℕ} {f g : ℕ → A → A} {old mid new : List A}
      → Span d a n f old mid → Span d a n g mid new → Span d a n (λ m x. g m (f m x)) old new
  span-again {a} {n} {f} {g} s t = record {
    long = t.long ∙ s.long;
    inside = λ m h. t.inside m h ∙ ap (g m) (s.inside m h);
    below = λ i h. t.below i h ∙ s.below i h;
    above = λ i h. t.above i h ∙ s.above i h;
  }

  -- a rule that does not look at what stood there has nothing more to do
  pub span-self : {a n : ℕ} {f : ℕ → A} {old new : List A} → Span d a n (λ m x. f m) old new → Span d a n (λ m x. f m) new new
  span-self s = record { long = refl; inside = s.inside; below = λ i h. refl; above = λ i h. refl }

  -- a place of a row
  pub span-at : {w : ℕ} (G : ℕ → ℕ → A → A) {old new : List A} (R r k : ℕ) → Span d 0 (R * w) (flat w G) old new → r < R → k < w
      → get_or new (r * w + k) d ≡ G r k (get_or old (r * w + k) d)
  span-at {w} G R r k s l u = front-inside s (r * w + k) (digits_lt l u) ∙ rw (digits_div r u, digits_mod r u)
