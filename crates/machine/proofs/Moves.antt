-- Moving the cursor: what a peek and a run of name tokens make of the machine.
use Prim.Native.Nat.{ℕ, suc, ◌+◌, ◌-◌, ◌≤◌}
use native.Mathlib.Nat.{mod-eq_of_lt}
use native.Mathlib.Omega.{arith}
use mathlib.Core.Path.{◌≡◌, refl, ap, ◌∙◌}
use mathlib.Core.Bool.{Bool, true, false, cond}
use mathlib.Core.List.{List, [], ◌∷◌}
use lib.ListN.{length}
use Rattle.definitions.specs.Layout.{MOST_TOKENS}
use Rattle.definitions.specs.Token.{Token, seen, trivia, drop_trivia, one_of}
use Rattle.definitions.specs.Skeleton.{Report}
use Rattle.definitions.specs.Run.{State, taken, peeked, Stretch, stretch_of}
use Rattle.basics.proofs.Tests.{cond-all}
use Rattle.basics.specs.Word.{low}
use Rattle.machine.specs.Machine.{Machine, skip, peek, name_stretch}
use Rattle.machine.proofs.Suffix.{Suffix, suffix_tail, suffix_length}
use Rattle.machine.proofs.Image.{Ground, image, Inside, moved, rest_is, pass_is, took_is}

-- ---------------------------------------------------------------- past trivia

pub skip_is : (g : Ground) (e : List ℕ) (l : List Report) (s : State) (ts : List Token) → Suffix g.tokens ts → skip ts (image g e l (moved s ts)) ≡ image g e l (moved s (drop_trivia ts))
unfolding skip drop_trivia
skip_is g e l s [] p = refl
skip_is g e l s (t ∷ ts) p =
    ap (λ (m : Machine). cond (trivia t) (skip ts m) (image g e l (moved s (t ∷ ts)))) (pass_is g e l s t ts p)
    ∙ ap (λ (m : Machine). cond (trivia t) m (image g e l (moved s (t ∷ ts)))) (skip_is g e l s ts (suffix_tail g.tokens ts t p))
    ∙ pick (trivia t)
  where
    pick : (b : Bool) → cond b (image g e l (moved s (drop_trivia ts))) (image g e l (moved s (t ∷ ts))) ≡ image g e l (moved s (cond b (drop_trivia ts) (t ∷ ts)))
    pick true = refl
    pick false = refl

pub peek_is : (g : Ground) (e : List ℕ) (l : List Report) (s : State) → Inside g s → peek g.tokens (image g e l s) ≡ image g e l (peeked s)
unfolding peek peeked
peek_is g e l s h = ap (λ (ts : List Token). skip ts (image g e l s)) (rest_is g e l s h) ∙ skip_is g e l s s.rest h.rest

-- ---------------------------------------------------------------- the tokens of a name

pub run_suffix : (g : Ground) (ks : List ℕ) (ts : List Token) → Suffix g.tokens ts → Suffix g.tokens (stretch_of ks ts).after
unfolding stretch_of
run_suffix g ks [] p = p
run_suffix g ks (t ∷ ts) p =
    cond-all (λ (r : Stretch). Suffix g.tokens r.after) (one_of ks (seen t)) {x = record { raw = t ∷ (stretch_of ks ts).raw; after = (stretch_of ks ts).after }} {y = record { raw = []; after = t ∷ ts }}
    (run_suffix g ks ts (suffix_tail g.tokens ts t p)) p

run_length : (ks : List ℕ) (ts : List Token) → length (stretch_of ks ts).raw + length (stretch_of ks ts).after ≡ length ts
unfolding stretch_of
run_length ks [] = omega arith
run_length ks (t ∷ ts) =
    cond-all (λ (r : Stretch). length r.raw + length r.after ≡ suc (length ts)) (one_of ks (seen t)) {x = record { raw = t ∷ (stretch_of ks ts).raw; after = (stretch_of ks ts).after }} {y = record { raw = []; after = t ∷ ts }}
    (omega (arith, run_length ks ts)) (omega arith)

pub name_run_is : (g : Ground) (e : List ℕ) (l : List Report) (ks : List ℕ) (ts : List Token) → Suffix g.tokens ts → name_stretch ks ts (image g e l (taken ts)) ≡ image g e l (taken (stretch_of ks ts).after)
unfolding name_stretch stretch_of
name_run_is g e l ks [] p = refl
name_run_is g e l ks (t ∷ ts) p =
    ap (λ (m : Machine). cond (one_of ks (seen t)) (name_stretch ks ts m) (image g e l (taken (t ∷ ts)))) (took_is g e l (taken (t ∷ ts)) t ts p)
    ∙ ap (λ (m : Machine). cond (one_of ks (seen t)) m (image g e l (taken (t ∷ ts)))) (name_run_is g e l ks ts (suffix_tail g.tokens ts t p))
    ∙ pick (one_of ks (seen t))
  where
    pick : (b : Bool) → cond b (image g e l (taken (stretch_of ks ts).after)) (image g e l (taken (t ∷ ts)))
        ≡ image g e l (taken (cond {A = Stretch} b (record { raw = t ∷ (stretch_of ks ts).raw; after = (stretch_of ks ts).after }) (record { raw = []; after = t ∷ ts })).after)
    pick true = refl
    pick false = refl

-- how many tokens a name has
distance : (n a r l : ℕ) → r + a ≡ l → suc l ≤ n → n ≤ MOST_TOKENS → low (n - a - (n - suc l)) ≡ suc r
distance n a r l e h k = let d : n - a - (n - suc l) ≡ suc r = omega arith in ap low d ∙ mod-eq_of_lt (omega arith)

pub name_count : (g : Ground) (e : List ℕ) (l : List Report) (s : State) (ks : List ℕ) (t : Token) (ts : List Token) → Suffix g.tokens (t ∷ ts)
    → low ((image g e l (taken (stretch_of ks ts).after)).cursor - (image g e l (moved s (t ∷ ts))).cursor) ≡ length (t ∷ (stretch_of ks ts).raw)
unfolding image
name_count g e l s ks t ts p =
    distance (length g.tokens) (length (stretch_of ks ts).after) (length (stretch_of ks ts).raw) (length ts) (run_length ks ts) (suffix_length g.tokens (t ∷ ts) p) g.limits.few
