-- Demand 2: over the sheets that a plan left, reading back answers document 01's chosen sequence and its error, or 11 where none exists,
-- and never 12; the list has the leasts. The rules that a table is planned by are those of the table's plate, so the chosen sequence of
-- the planner is document 01's; the entries that are read are the leasts and last thicknesses, so the walk is the chosen one.
-- Assumes nothing.
use mathlib.Core.Path.{◌≡◌, refl, sym, ap, ap₂, ◌∙◌, fun_ext}
use mathlib.Core.Logic.{inl, inr}
use mathlib.Core.List.{List, [], ◌++◌, map}
use mathlib.Core.Option
use mathlib.Core.Option.{Option, none, some}
use Prim.Native.Nat.{ℕ, ◌+◌, ◌-◌, ◌≤◌, ◌<◌}
use native.Mathlib.Nat.{mul-le-mul}
use native.Mathlib.Omega.{arith}
use borrow.Author.Tests.{leb-true, le-ltb, ne_eqb}
use lib.Dec.{leb}
use lib.IntN.{ℤ}
use lib.ListN.{length, get_or, drop}
use Rattle.lists.specs.Checks.{first}
use Rattle.lists.specs.Best.{Best, nothing, found, value, place}
use Rattle.lists.specs.Rewrite.{rewritten}
use Rattle.lists.proofs.Best.{best-in, best-same}
use Rattle.lists.proofs.Checks.{first-passed}
use Rattle.lists.proofs.Rewrite.{rewritten-at, length-rewritten}
use Rattle.paper.specs.Limits.{largest_bound}
use Rattle.paper.specs.Layer as paper
use Rattle.paper.specs.Layer.{tmax}
use Rattle.paper.specs.Table.{cell_at, of_table}
use Rattle.paper.specs.Sequence.{M, Chosen, None, error}
use Rattle.paper.specs.Sheets.{entries, missing}
use Rattle.paper.proofs.Thicknesses.{and-true}
use Rattle.plate.specs.Datum.{height_of}
use Rattle.plate.specs.Call.{Call, answer_of, left_by}
use Rattle.plate.specs.Refusal.{done, refused, decided}
use Rattle.plate.specs.Settings.{settings_checks}
use Rattle.plate.proofs.Datum.{datum-height}
use Rattle.plate.proofs.Sizes.{sound}
use Rattle.plate.proofs.Calls.{finished, unwritten}
use Rattle.plate.proofs.Decided.{decided-passed}
use Rattle.sequence.specs.Sequence as working
use Rattle.sequence.specs.Sequence.{lowest_end}
use Rattle.sequence.specs.Least as working-least
use Rattle.sequence.specs.Rules.{rules, shape}
use Rattle.sequence.specs.Sheets.{mark, unmark, error_entry, thickness_entry, entry, end_of, fault_under, boundaries_under}
use Rattle.sequence.proofs.Bounds.{least-bound}
use Rattle.sequence.proofs.Marks.{Small, unmark-mark}
use Rattle.sequence.proofs.Sheets.{entry-is, no-fault, walked}
use Rattle.column.proofs.Fine.{settings-fine}
use Rattle.table.specs.Cells.{cell_from}
use Rattle.table.proofs.Cells.{cell-is}
use Rattle.plan.specs.Plan.{Sheets, planned}
use Rattle.plan.specs.Planning.{plan_rules, planned_errors, planned_thicknesses, planned_list}
use Rattle.readback.specs.Reading.{size_checks, room_checks, entry_checks, reading}
use Rattle.meaning.specs.Working as meaning
use Rattle.meaning.proofs.Choice.{found-exact, found_none, chosen-error, listed, listed-none}
use Rattle.promises.specs.Plans.{Room, Answers, ReadsBack}

-- ---- the rules of a table are those of its plate

pub cell-height : (T : ℕ) → 1 ≤ tmax T → (table : List ℕ) (h t : ℕ) → cell_at T table (height_of h) t ≡ cell_from T table h t
cell-height T l table h t = cell-is T l table (height_of h) t ∙ ap (λ (g : ℕ). cell_from T table g t) (datum-height h)

rules-are : (N T bound : ℕ) (table : List ℕ) → 1 ≤ tmax T → plan_rules N T bound table ≡ meaning.rules_of (of_table N T table) bound
unfolding plan_rules
rules-are N T bound table l = ap (rules N T bound) (fun_ext (λ h. fun_ext (λ t. sym (cell-height T l table h t))))

-- ---- over the sheets of a plan

module _ (p : paper.Plate) (bound : ℕ) (settings : paper.Settings p.N p.T) (small : bound ≤ largest_bound) where
  abbrev N : ℕ
  N = p.N

  abbrev T : ℕ
  T = p.T

  abbrev cell : ℕ → ℕ → ℕ
  cell h t = p.layer_error (height_of h) t

  abbrev R : working.Rules
  R = meaning.rules_of p bound

  -- a layer's error is at most the bound, so no sum reaches the mark for none
  layer-bound : (h t : ℕ) → working.Layer R h t → cell (h - t) t ≤ bound
  layer-bound h t l = leb-true _ _ (and-true (shape N T (h - t) t) (leb (cell (h - t) t) bound) l.allowed).1

  few : (n : ℕ) → n ≤ M N T → n ≤ 512
  few n l = let k = sound N T settings in omega (arith, k.few-counts)

  pub least-small : (n h : ℕ) → n ≤ M N T → Small (working-least.least R n h)
  least-small n h l = go (working-least.least R n h) refl
    where
      go : (o : Option ℕ) → working-least.least R n h ≡ o → Small o
      go none e = tt
      go (some x) e =
          let b = least-bound R bound layer-bound n h x e in
          let c = mul-le-mul (few n l) small in
          omega arith

  module _ (errors thicknesses : List ℕ)
      (are-errors : (i : ℕ) → i < entries N T → get_or errors i 0 ≡ error_entry N T R i)
      (are-lasts : (i : ℕ) → i < entries N T → get_or thicknesses i 0 ≡ thickness_entry N T R i) where
    error-entry : (n h : ℕ) → n ≤ M N T → 32 < h + tmax T → h < lowest_end N + tmax T → entry N T errors n h ≡ mark (working-least.least R n h)
    unfolding error_entry
    error-entry n h l u v = entry-is N T errors (λ m g. mark (working-least.least R m g)) settings.least-height are-errors n h l u v

    last_entry : (n h : ℕ) → n ≤ M N T → 32 < h + tmax T → h < lowest_end N + tmax T → entry N T thicknesses n h ≡ working-least.last R n h
    unfolding thickness_entry
    last_entry n h l u v = entry-is N T thicknesses (λ m g. working-least.last R m g) settings.least-height are-lasts n h l u v

    -- the end that is read is the chosen one's
    pub end_is : (n : ℕ) → n ≤ M N T → end_of N T errors n ≡ working-least.top R n
    unfolding end_of working-least.top
    end_is n l =
        best-same _ _ (lowest_end N) (tmax T)
        (λ h a b. ap unmark (error-entry n h l (let s = settings.some-thickness in omega arith) b) ∙ unmark-mark (working-least.least R n h) (least-small n h l))

    -- the chosen sequence of the planner, and what is read
    module _ (n : ℕ) (some-layer : 1 ≤ n) (within : n ≤ M N T) where
      walk_fine : (e h : ℕ) → working-least.top R n ≡ found e h → fault_under (entry N T thicknesses) N T n n h ≡ none
      unfolding working-least.top
      walk_fine e h q =
          let i = best-in (λ g. working-least.least R n g) (lowest_end N) (tmax T) e h q in
          no-fault N T bound cell (entry N T thicknesses) last_entry n n h e within i.1 i.2

      walk_is : (e h : ℕ) → working-least.top R n ≡ found e h → (rest : List ℤ)
          → boundaries_under (entry N T thicknesses) n h rest ≡ map height_of (working.boundaries (record { top = h; layers = working-least.walk R n h })) ++ rest
      unfolding working-least.top
      walk_is e h q rest =
          let i = best-in (λ g. working-least.least R n g) (lowest_end N) (tmax T) e h q in
          walked N T bound cell (entry N T thicknesses) last_entry n h e [] within i.1 i.2 rest

      none_found : working-least.top R n ≡ nothing → meaning.found p bound n ≡ none
      unfolding working-least.chosen
      none_found q = ap (λ (b : Best). Option.map meaning.boundaries_of (working-least.from_top R n b)) q

      some-found : (e h : ℕ) → working-least.top R n ≡ found e h
          → meaning.found p bound n ≡ some (map height_of (working.boundaries (record { top = h; layers = working-least.walk R n h })))
      unfolding working-least.chosen
      some-found e h q = ap (λ (b : Best). Option.map meaning.boundaries_of (working-least.from_top R n b)) q

      least-of : (e h : ℕ) → working-least.top R n ≡ found e h → meaning.found_error p bound n ≡ some e
      unfolding working-least.least_of
      least-of e h q = ap value q

      module _ (old : List ℤ) (room : n < length old) (whole-errors : entries N T ≤ length errors) (whole-lasts : entries N T ≤ length thicknesses) where
        abbrev call : Call ℕ (List ℤ)
        call = reading N T errors thicknesses n old

        room-fine : first (size_checks N T (length errors) (length thicknesses) n (length old)) ≡ none
        unfolding size_checks
        room-fine =
            let z : n ≡ 0 → ⊥ = (λ e. omega arith) in
            simp
            (le-ltb (length errors) (entries N T) whole-errors, le-ltb (length thicknesses) (entries N T) whole-lasts, ne_eqb n 0 z, le-ltb (M N T) n within, le-ltb (length old) (n + 1) (omega arith))

        -- only 11 and 12 are left
        answer-is : answer_of call ≡ decided (entry_checks N T errors thicknesses n) (mark (value (end_of N T errors n)))
        unfolding reading
        answer-is =
            decided-passed (room_checks N T (length errors) (length thicknesses) n (length old)) (entry_checks N T errors thicknesses n) (mark (value (end_of N T errors n)))
            (first-passed (settings_checks N T) (size_checks N T (length errors) (length thicknesses) n (length old)) (settings-fine N T settings) ∙ room-fine)

        none_read : working-least.top R n ≡ nothing → answer_of call ≡ refused 11 0
        unfolding entry_checks
        none_read q = let e : end_of N T errors n ≡ nothing = end_is n within ∙ q in answer-is ∙ rw e

        some_read : (e h : ℕ) → working-least.top R n ≡ found e h → answer_of call ≡ done e
        unfolding entry_checks
        some_read e h q =
            let d : end_of N T errors n ≡ found e h = end_is n within ∙ q in
            let f : fault_under (entry N T thicknesses) N T n n h ≡ none = walk_fine e h q in
            answer-is ∙ rw (d, f)

        out-is : (e h : ℕ) → working-least.top R n ≡ found e h
            → left_by call ≡ map height_of (working.boundaries (record { top = h; layers = working-least.walk R n h })) ++ drop (n + 1) old
        unfolding reading
        out-is e h q =
            let d : end_of N T errors n ≡ found e h = end_is n within ∙ q in
            (finished call e (some_read e h q)).2
            ∙ ap (λ (b : Best). boundaries_under (entry N T thicknesses) n (place b) (drop (n + 1) old)) d
            ∙ walk_is e h q (drop (n + 1) old)

        held-is : answer_of call ≡ refused 11 0 → left_by call ≡ old
        unfolding reading
        held-is e = unwritten call 11 0 e

        -- DEMAND 2, for any plate: reading back over sheets that hold its entries
        pub reads : Answers p bound n (answer_of call) old (left_by call)
        reads = go (working-least.top R n) refl
          where
            go : (b : Best) → working-least.top R n ≡ b → Answers p bound n (answer_of call) old (left_by call)
            go nothing q =
                let r = none_read q in
                inr ((found_none p bound n some-layer).0 (none_found q), r, held-is r)
            go (found e h) q =
                let f = some-found e h q in
                let x : some e ≡ some (error p (zs h)) = sym (least-of e h q) ∙ chosen-error p bound n some-layer (zs h) f in
                inl (zs h, (found-exact p bound n some-layer (zs h)).1 f, some_read e h q ∙ ap done (let y : e ≡ error p (zs h) = cc in y), out-is e h q)
              where
                zs : ℕ → List ℤ
                zs h = map height_of (working.boundaries (record { top = h; layers = working-least.walk R n h }))

-- ---- the sheets that a plan over a table left

planned-at : (f : ℕ → ℕ) (n : ℕ) (old : List ℕ) → n ≤ length old → (i : ℕ) → i < n → get_or (rewritten (λ i x. f i) n old) i 0 ≡ f i
planned-at f n old room i l = rewritten-at (λ i x. f i) n old i 0 l (omega arith)

module _ (N T bound : ℕ) (settings : paper.Settings N T) (small : bound ≤ largest_bound) (table : List ℕ) (lent : Sheets) (lent-room : Room N T lent) where
  abbrev plate : paper.Plate
  plate = of_table N T table

  same : plan_rules N T bound table ≡ meaning.rules_of plate bound
  same = rules-are N T bound table settings.some-thickness

  pub errors-are : (i : ℕ) → i < entries N T → get_or (planned N T bound table lent).errors i 0 ≡ error_entry N T (meaning.rules_of plate bound) i
  unfolding planned_errors
  errors-are i l = planned-at (error_entry N T (plan_rules N T bound table)) (entries N T) lent.errors lent-room.errors i l ∙ ap (λ (r : working.Rules). error_entry N T r i) same

  pub lasts_are : (i : ℕ) → i < entries N T → get_or (planned N T bound table lent).thicknesses i 0 ≡ thickness_entry N T (meaning.rules_of plate bound) i
  unfolding planned_thicknesses
  lasts_are i l = planned-at (thickness_entry N T (plan_rules N T bound table)) (entries N T) lent.thicknesses lent-room.thicknesses i l ∙ ap (λ (r : working.Rules). thickness_entry N T r i) same

  errors-whole : entries N T ≤ length (planned N T bound table lent).errors
  unfolding planned_errors
  errors-whole = omega (arith, length-rewritten (λ i x. error_entry N T (plan_rules N T bound table) i) (entries N T) lent.errors, lent-room.errors)

  lasts-whole : entries N T ≤ length (planned N T bound table lent).thicknesses
  unfolding planned_thicknesses
  lasts-whole = omega (arith, length-rewritten (λ i x. thickness_entry N T (plan_rules N T bound table) i) (entries N T) lent.thicknesses, lent-room.thicknesses)

  module _ (n : ℕ) (some-layer : 1 ≤ n) (within : n ≤ M N T) where
    -- DEMAND 2: for every count from 1 to M, reading back over the sheets that the plan left
    pub plan-reads : (old : List ℤ) → n < length old
        → ReadsBack plate bound n (planned N T bound table lent) old
    plan-reads old room =
        reads plate bound settings small (planned N T bound table lent).errors (planned N T bound table lent).thicknesses errors-are lasts_are n some-layer within old room errors-whole lasts-whole

    -- the list has the leasts
    list-is : get_or (planned N T bound table lent).leasts (n - 1) 0 ≡ mark (meaning.found_error plate bound n)
    unfolding planned_list
    list-is =
        let e : n - 1 + 1 ≡ n = omega arith in
        planned-at (λ i. mark (working-least.least_of (plan_rules N T bound table) (i + 1))) (M N T) lent.leasts lent-room.leasts (n - 1) (omega arith)
        ∙ ap₂ (λ (r : working.Rules) (k : ℕ). mark (working-least.least_of r k)) same e

    pub plan-lists : (zs : List ℤ) → Chosen plate bound n zs → get_or (planned N T bound table lent).leasts (n - 1) 0 ≡ error plate zs
    plan-lists zs c = list-is ∙ listed plate bound n some-layer zs c

    pub plan-lists-none : None plate bound n → get_or (planned N T bound table lent).leasts (n - 1) 0 ≡ missing
    plan-lists-none e = list-is ∙ listed-none plate bound n some-layer e
