-- Event rows and report rows as the machine writes them, with every number cut to 32 bits; and that nothing is cut
-- where the skeleton is small. So the walk is held to the definitions without a word on sizes, and sizes are looked at
-- once, in the end.
use Prim.Native.Nat.{ℕ, suc, ◌+◌, ◌-◌, ◌*◌, ◌<◌}
use native.Mathlib.Nat.{add-zero, mod-eq_of_lt}
use native.Mathlib.Omega.{arith}
use mathlib.Core.Path.{◌≡◌, refl, sym, ap, ◌∙◌}
use mathlib.Core.Bool.{Bool, true, false}
use mathlib.Core.List.{List, [], ◌∷◌, ◌++◌, append_assoc}
use lib.ListN.{length, length-append}
use Rattle.definitions.specs.Layout.{EVENT_ROW, REPORT_ROW, PLACEHOLDER, ADD_TOKEN, ADD_COMBINED_TOKEN, FINISH_NODE, ERROR, TWO_TO_32}
use Rattle.definitions.specs.Skeleton.{Label, no_label, label, Report, Skeleton, done, token, name, node, ignored, report, over, ◌⧺◌}
use Rattle.definitions.specs.Event.{forward, events}
use Rattle.definitions.specs.Report.{label_numbers, report_numbers, pool}
use Rattle.laws.proofs.Skeleton.{label_append}
use Rattle.basics.specs.Word.{low}
use Rattle.machine.specs.Encode.{start_tag, encode}

-- ---------------------------------------------------------------- events

-- `encode`, its distances cut to 32 bits
unfoldable pub coded : Bool → Skeleton → List ℕ
unfolding events
coded linked done = []
coded linked (token t m o) = ADD_TOKEN ∷ 0 ∷ 0 ∷ coded linked o
coded linked (name ts m o) = ADD_COMBINED_TOKEN ∷ length ts ∷ 0 ∷ coded linked o
coded linked (node k m m' a i o) =
    coded true a ++ (start_tag a ∷ k ∷ forward linked (low (suc (suc (length (events false i))))) ∷ (coded false i ++ (FINISH_NODE ∷ 0 ∷ 0 ∷ coded linked o)))
coded linked (ignored m m' a i o) = coded true a ++ (PLACEHOLDER ∷ 0 ∷ 0 ∷ (coded false i ++ (PLACEHOLDER ∷ 0 ∷ 0 ∷ coded linked o)))
coded linked (report r o) = ERROR ∷ 0 ∷ 0 ∷ coded linked o
coded linked (over m o) = coded linked o

-- a list after the last of three pieces, with rows between them
after_three : (a : List ℕ) (x y z : ℕ) (i : List ℕ) (u v w : ℕ) (o l : List ℕ)
    → a ++ (x ∷ y ∷ z ∷ (i ++ (u ∷ v ∷ w ∷ (o ++ l)))) ≡ (a ++ (x ∷ y ∷ z ∷ (i ++ (u ∷ v ∷ w ∷ o)))) ++ l
after_three a x y z i u v w o l = sym (append_assoc a _ l ∙ ap (λ (t : List ℕ). a ++ (x ∷ y ∷ z ∷ t)) (append_assoc i (u ∷ v ∷ w ∷ o) l))

pub coded_join : (b : Bool) (p q : Skeleton) → coded b (p ⧺ q) ≡ coded b p ++ coded b q
unfolding coded ◌⧺◌
coded_join b done q = refl
coded_join b (token t m p) q = ap (λ (l : List ℕ). ADD_TOKEN ∷ 0 ∷ 0 ∷ l) (coded_join b p q)
coded_join b (name ts m p) q = ap (λ (l : List ℕ). ADD_COMBINED_TOKEN ∷ length ts ∷ 0 ∷ l) (coded_join b p q)
coded_join b (node k m m' a i p) q =
    let d : ℕ = forward b (low (suc (suc (length (events false i))))) in
    ap (λ (l : List ℕ). coded true a ++ (start_tag a ∷ k ∷ d ∷ (coded false i ++ (FINISH_NODE ∷ 0 ∷ 0 ∷ l)))) (coded_join b p q)
    ∙ after_three (coded true a) (start_tag a) k d (coded false i) FINISH_NODE 0 0 (coded b p) (coded b q)
coded_join b (ignored m m' a i p) q =
    ap (λ (l : List ℕ). coded true a ++ (PLACEHOLDER ∷ 0 ∷ 0 ∷ (coded false i ++ (PLACEHOLDER ∷ 0 ∷ 0 ∷ l)))) (coded_join b p q)
    ∙ after_three (coded true a) PLACEHOLDER 0 0 (coded false i) PLACEHOLDER 0 0 (coded b p) (coded b q)
coded_join b (report r p) q = ap (λ (l : List ℕ). ERROR ∷ 0 ∷ 0 ∷ l) (coded_join b p q)
coded_join b (over m p) q = coded_join b p q

-- three numbers for an event
pub coded_length : (b : Bool) (o : Skeleton) → length (coded b o) ≡ EVENT_ROW * length (events b o)
unfolding coded events
coded_length b done = refl
coded_length b (token t m o) = omega (arith, coded_length b o)
coded_length b (name ts m o) = omega (arith, coded_length b o)
coded_length b (node k m m' a i o) = simp length-append (omega (arith, coded_length true a, coded_length false i, coded_length b o))
coded_length b (ignored m m' a i o) = simp length-append (omega (arith, coded_length true a, coded_length false i, coded_length b o))
coded_length b (report r o) = omega (arith, coded_length b o)
coded_length b (over m o) = coded_length b o

-- nothing is cut
pub coded_small : (b : Bool) (o : Skeleton) → length (events b o) < TWO_TO_32 → coded b o ≡ encode b o
unfolding coded encode events
coded_small b done h = refl
coded_small b (token t m o) h = ap (λ (l : List ℕ). ADD_TOKEN ∷ 0 ∷ 0 ∷ l) (coded_small b o (omega arith))
coded_small b (name ts m o) h = ap (λ (l : List ℕ). ADD_COMBINED_TOKEN ∷ length ts ∷ 0 ∷ l) (coded_small b o (omega arith))
coded_small b (node k m m' a i o) h =
    let g : length (events true a) + suc (length (events false i) + suc (length (events b o))) < TWO_TO_32 = simp length-append at h in
    let d : low (suc (suc (length (events false i)))) ≡ suc (suc (length (events false i))) = mod-eq_of_lt (omega arith) in
    let x : coded true a ≡ encode true a = coded_small true a (omega arith) in
    let y : coded false i ≡ encode false i = coded_small false i (omega arith) in
    let z : coded b o ≡ encode b o = coded_small b o (omega arith) in
    rw (x, y, z, d)
coded_small b (ignored m m' a i o) h =
    let g : length (events true a) + suc (length (events false i) + suc (length (events b o))) < TWO_TO_32 = simp length-append at h in
    let x : coded true a ≡ encode true a = coded_small true a (omega arith) in
    let y : coded false i ≡ encode false i = coded_small false i (omega arith) in
    let z : coded b o ≡ encode b o = coded_small b o (omega arith) in
    rw (x, y, z)
coded_small b (report r o) h = ap (λ (l : List ℕ). ERROR ∷ 0 ∷ 0 ∷ l) (coded_small b o (omega arith))
coded_small b (over m o) h = coded_small b o h

-- ---------------------------------------------------------------- reports

-- `report_numbers`, first pool places and pool counts cut to 32 bits
unfoldable pub low_rows : ℕ → ℕ → ℕ → List Report → List ℕ
low_rows n b first [] = []
low_rows n b first (r ∷ l) =
    r.message ∷ (b - r.range.from) ∷ (b - r.range.to) ∷ (n - r.mark) ∷ low first ∷ low (length r.pool) ∷ r.hint
    ∷ label_numbers b r.labelled (low_rows n b (first + length r.pool) l)

pub low_rows_append : (n b first : ℕ) (l m : List Report) → low_rows n b first (l ++ m) ≡ low_rows n b first l ++ low_rows n b (first + length (pool l)) m
unfolding low_rows pool
low_rows_append n b first [] m = ap (λ (x : ℕ). low_rows n b x m) (sym (add-zero first))
low_rows_append n b first (r ∷ l) m =
    let e : first + length r.pool + length (pool l) ≡ first + length (r.pool ++ pool l) = simp length-append (omega arith) in
    ap (λ (x : List ℕ). r.message ∷ (b - r.range.from) ∷ (b - r.range.to) ∷ (n - r.mark) ∷ low first ∷ low (length r.pool) ∷ r.hint ∷ x)
    (ap (label_numbers b r.labelled) (low_rows_append n b (first + length r.pool) l m ∙ ap (λ (x : ℕ). low_rows n b (first + length r.pool) l ++ low_rows n b x m) e)
    ∙ label_append b r.labelled (low_rows n b (first + length r.pool) l) (low_rows n b (first + length (r.pool ++ pool l)) m))

pub low_rows_small : (n b first : ℕ) (l : List Report) → first + length (pool l) < TWO_TO_32 → low_rows n b first l ≡ report_numbers n b first l
unfolding low_rows report_numbers pool
low_rows_small n b first [] h = refl
low_rows_small n b first (r ∷ l) h =
    let g : first + (length r.pool + length (pool l)) < TWO_TO_32 = simp length-append at h in
    let x : low first ≡ first = mod-eq_of_lt (omega arith) in
    let y : low (length r.pool) ≡ length r.pool = mod-eq_of_lt (omega arith) in
    let z : low_rows n b (first + length r.pool) l ≡ report_numbers n b (first + length r.pool) l = low_rows_small n b (first + length r.pool) l (omega arith) in
    ap (λ (u : ℕ). r.message ∷ (b - r.range.from) ∷ (b - r.range.to) ∷ (n - r.mark) ∷ u ∷ low (length r.pool) ∷ r.hint ∷ label_numbers b r.labelled (low_rows n b (first + length r.pool) l)) x
    ∙ ap (λ (u : ℕ). r.message ∷ (b - r.range.from) ∷ (b - r.range.to) ∷ (n - r.mark) ∷ first ∷ u ∷ r.hint ∷ label_numbers b r.labelled (low_rows n b (first + length r.pool) l)) y
    ∙ ap (λ (u : List ℕ). r.message ∷ (b - r.range.from) ∷ (b - r.range.to) ∷ (n - r.mark) ∷ first ∷ length r.pool ∷ r.hint ∷ label_numbers b r.labelled u) z

-- nine numbers for a report
pub low_row_length : (n b first : ℕ) (r : Report) → length (low_rows n b first (r ∷ [])) ≡ REPORT_ROW
unfolding low_rows
low_row_length n b first r = by_label r.labelled
  where
    by_label : (x : Label) → suc (suc (suc (suc (suc (suc (suc (length (label_numbers b x [])))))))) ≡ REPORT_ROW
    by_label no_label = refl
    by_label (label s) = refl
