-- `high_byte` and `directive` of the definitions find the lowest offset of what they look for, or there is none.
use Prim.Native.Nat.{ℕ, suc, ◌+◌, ◌<◌}
use native.Mathlib.Omega.{arith}
use mathlib.Core.Path.{◌≡◌, refl, sym, ap, ◌∙◌, subst}
use mathlib.Core.Bool.{Bool, true, false, cond, false≢true}
use mathlib.Core.List.{List, [], ◌∷◌, ◌++◌}
use lib.Dec.{leb}
use lib.ListN.{length, drop}
use lib.Seq.{drop-drop}
use borrow.Author.Tests.{leb-true, leb-false}
use Rattle.definitions.specs.Token.{Token, byte_count}
use Rattle.definitions.specs.Lex.{next_token, lex_after, lex}
use Rattle.definitions.specs.Text.{Offset, nowhere, found_at, high_byte, is_directive, directive}
use Rattle.basics.proofs.Lists.{first_same, rest_same, none_some}
use Rattle.lexing.proofs.Lengths.{lex_next, past_first, by_tokens}
use Rattle.texts.specs.Plain.{HighAt, Directive, DirectiveAt}
use Rattle.texts.proofs.Directives.{found_directive, finds_directive}

-- ---------------------------------------------------------------- the lowest offset

-- the lowest offset of which P holds, counted from i on
pub data Found (P : ℕ → Type 0) (i : ℕ) : Offset → Type 0 where
  none : ((j : ℕ) → ¬ P j) → Found P i nowhere
  at : (k : ℕ) → P k → ((j : ℕ) → j < k → ¬ P j) → Found P i (found_at (i + k))

here : (P : ℕ → Type 0) (i : ℕ) → P 0 → Found P i (found_at i)
here P i p =
    let e : i + 0 ≡ i = omega arith in
    subst (λ (k : ℕ). Found P i (found_at k)) e (at 0 p (λ j h. absurd (omega (arith, h))))

-- where P is Q, n further on
further : (P Q : ℕ → Type 0) (i n : ℕ) (o : Offset) → ((j : ℕ) → Q j → P (n + j)) → ((j : ℕ) → P j → (k : ℕ) × (j ≡ n + k) × Q k)
    → Found Q (i + n) o → Found P i o
further P Q i n o on back (none h) = none (λ j p. let b = back j p in h b.0 b.2)
further P Q i n o on back (at k q h) =
    let e : i + (n + k) ≡ i + n + k = omega arith in
    subst (λ (m : ℕ). Found P i (found_at m)) e
    (at (n + k) (on k q) (λ j l p. let b = back j p in h b.0 (omega (arith, l, b.1)) b.2))

-- ---------------------------------------------------------------- a high byte

nothing_high : (i : ℕ) → ¬ HighAt [] i
nothing_high i h = by h.before h.stands
  where
    by : (l : List ℕ) → ¬ ([] ≡ l ++ (h.byte ∷ h.behind))
    by [] e = none_some e
    by (x ∷ l) e = none_some e

high_on : (b : ℕ) (s : List ℕ) (j : ℕ) → HighAt s j → HighAt (b ∷ s) (1 + j)
high_on b s j h =
    record {
      before = b ∷ h.before;
      byte = h.byte;
      behind = h.behind;
      stands = ap (b ∷◌) h.stands;
      offset = omega (arith, h.offset);
      high = h.high;
    }

high_back : (b : ℕ) (s : List ℕ) → b < 128 → (j : ℕ) → HighAt (b ∷ s) j → (k : ℕ) × (j ≡ 1 + k) × HighAt s k
high_back b s low j h = by h.before h.stands h.offset
  where
    by : (l : List ℕ) → b ∷ s ≡ l ++ (h.byte ∷ h.behind) → length l ≡ j → (k : ℕ) × (j ≡ 1 + k) × HighAt s k
    by [] e f = let g : b ≡ h.byte = first_same e in absurd (omega (arith, g, low, h.high))
    by (x ∷ l) e f = (
      length l,
      omega (arith, f),
      record { before = l; byte = h.byte; behind = h.behind; stands = rest_same e; offset = refl; high = h.high },
    )

pub high_found : (i : ℕ) (s : List ℕ) → Found (HighAt s) i (high_byte i s)
unfolding high_byte
high_found i [] = none nothing_high
high_found i (b ∷ s) = by (leb 128 b) refl (high_found (suc i) s)
  where
    by : (x : Bool) → leb 128 b ≡ x → Found (HighAt s) (suc i) (high_byte (suc i) s)
        → Found (HighAt (b ∷ s)) i (cond x (found_at i) (high_byte (suc i) s))
    by true e f = here (HighAt (b ∷ s)) i (record { before = []; byte = b; behind = s; stands = refl; offset = refl; high = leb-true 128 b e })
    by false e f =
        let g : suc i ≡ i + 1 = omega arith in
        further (HighAt (b ∷ s)) (HighAt s) i 1 (high_byte (suc i) s) (high_on b s) (high_back b s (leb-false 128 b e))
        (subst (λ (k : ℕ). Found (HighAt s) k (high_byte (suc i) s)) g f)

-- ---------------------------------------------------------------- a directive at a token start

directive_on : (b : ℕ) (s : List ℕ) (j : ℕ) → DirectiveAt (past_first b s) j → DirectiveAt (b ∷ s) ((next_token (b ∷ s)).len + j)
unfolding byte_count
directive_on b s j d =
    let n = (next_token (b ∷ s)).len in
    record {
      before = next_token (b ∷ s) ∷ d.before;
      token = d.token;
      behind = d.behind;
      starts = lex_next b s ∙ ap (next_token (b ∷ s) ∷◌) d.starts;
      offset = ap (λ (k : ℕ). n + k) d.offset;
      directive = subst Directive (drop-drop j n (b ∷ s)) d.directive;
    }

directive_back : (b : ℕ) (s : List ℕ) → ¬ Directive (b ∷ s) → (j : ℕ) → DirectiveAt (b ∷ s) j
    → (k : ℕ) × (j ≡ (next_token (b ∷ s)).len + k) × DirectiveAt (past_first b s) k
unfolding byte_count
directive_back b s not-here j d = by d.before (sym (lex_next b s) ∙ d.starts) d.offset
  where
    by : (l : List Token) → next_token (b ∷ s) ∷ lex (past_first b s) ≡ l ++ (d.token ∷ d.behind) → byte_count l ≡ j
        → (k : ℕ) × (j ≡ (next_token (b ∷ s)).len + k) × DirectiveAt (past_first b s) k
    by [] e f = absurd (not-here (subst (λ (k : ℕ). Directive (drop k (b ∷ s))) (sym f) d.directive))
    by (t ∷ l) e f =
        let g : t.len ≡ (next_token (b ∷ s)).len = ap (λ (x : Token). x.len) (sym (first_same e)) in
        let h : j ≡ (next_token (b ∷ s)).len + byte_count l = sym f ∙ ap (◌+ byte_count l) g in (
          byte_count l,
          h,
          record {
            before = l;
            token = d.token;
            behind = d.behind;
            starts = rest_same e;
            offset = refl;
            directive =
                subst Directive (ap (λ (k : ℕ). drop k (b ∷ s)) h ∙ sym (drop-drop (byte_count l) (next_token (b ∷ s)).len (b ∷ s)))
                d.directive;
          },
        )

nothing_starts : (i : ℕ) → ¬ DirectiveAt [] i
unfolding lex_after
nothing_starts i d = by d.before d.starts
  where
    by : (l : List Token) → ¬ ([] ≡ l ++ (d.token ∷ d.behind))
    by [] e = none_some e
    by (x ∷ l) e = none_some e

abbrev Finds : List ℕ → List Token → Type 0
Finds s ts = (i : ℕ) → Found (DirectiveAt s) i (directive i s ts)

pub directive_found : (s : List ℕ) → Finds s (lex s)
unfolding directive byte_count
directive_found s = by_tokens Finds (λ i. none nothing_starts) at_first s
  where
    at_first : (b : ℕ) (s : List ℕ) → Finds (past_first b s) (lex (past_first b s)) → Finds (b ∷ s) (next_token (b ∷ s) ∷ lex (past_first b s))
    at_first b s f i = by (is_directive (b ∷ s)) refl
      where
        by : (x : Bool) → is_directive (b ∷ s) ≡ x
            → Found (DirectiveAt (b ∷ s)) i (cond x (found_at i) (directive (i + (next_token (b ∷ s)).len) (past_first b s) (lex (past_first b s))))
        by true e =
            here (DirectiveAt (b ∷ s)) i
            (record {
              before = [];
              token = next_token (b ∷ s);
              behind = lex (past_first b s);
              starts = lex_next b s;
              offset = refl;
              directive = found_directive (b ∷ s) e;
            })
        by false e =
            further (DirectiveAt (b ∷ s)) (DirectiveAt (past_first b s)) i (next_token (b ∷ s)).len _ (directive_on b s)
            (directive_back b s (λ (d : Directive (b ∷ s)). false≢true (sym e ∙ finds_directive (b ∷ s) d)))
            (f (i + (next_token (b ∷ s)).len))
