-- `by_rules`: the definitions' search finds a winner or shows that there is none (Best); and no text has two winners,
-- so no two lists of tokens.
use Prim.Native.Nat.{ℕ, ◌≤◌}
use native.Mathlib.Omega.{arith}
use mathlib.Core.Path.{◌≡◌, refl, sym, ap, ◌∙◌, subst}
use mathlib.Core.Logic.{◌⊎◌, inl, inr}
use mathlib.Core.Bool.{Bool, true, false, false≢true}
use mathlib.Core.List.{List, [], ◌∷◌, ◌++◌}
use lib.Dec.{ltb}
use lib.ListN.{length, take, drop}
use borrow.Author.Tests.{ltb-true, ltb-false}
use Rattle.definitions.specs.Token.{Token}
use Rattle.definitions.specs.Pattern.{fits}
use Rattle.definitions.specs.Rules.{Rule}
use Rattle.definitions.specs.Lex.{Match, finish, made_of, longest, next_token, lex_after, lex}
use Rattle.patterns.proofs.Textbook.{textbook}
use Rattle.basics.proofs.Lists.{first_same, rest_same}
use Rattle.lexing.specs.ByRules.{Member, Matches, Wins, Starts, by_rule, by_none, Lexing, at_end, at_token, ByRules}
use Rattle.lexing.proofs.Best.{one_on, IsLongest, at_none, at_one, is_longest}
use Rattle.lexing.proofs.Lengths.{lex_next, past_first, by_tokens}

-- ---------------------------------------------------------------- they are

-- a rule that the test refuses does not match
refused : (s : List ℕ) (m : ℕ) (q : Rule) → fits q.pattern (take m s) ≡ false → ¬ Matches s m q
refused s m q e h = false≢true (sym e ∙ (textbook q.pattern (take m s)).1 h.fits)

starts : (s : List ℕ) (m : Match) → IsLongest (length s) s m → Starts s (made_of m s)
unfolding made_of
starts s m (at_none a) = by_none (λ n q others r h. refused s _ q (a _ h.some h.inside q others r) h)
starts s m (at_one n before r h i f a) =
    by_rule n before r
    (record {
      a_rule = f.a_rule;
      it_matches = record { some = h; inside = i; fits = (textbook r.pattern (take n s)).0 f.it_fits };
      none_longer = λ m q others l r g. refused s m q (a m l g.inside q others r) g;
      none_before = λ q others r. refused s n q (f.none_before q others r);
    })

pub next_starts : (s : List ℕ) → Starts s (next_token s)
unfolding next_token
next_starts s = starts s (longest (length s) s) (is_longest (length s) s)

they_are : (s : List ℕ) → Lexing s (lex s)
they_are s = by_tokens Lexing at_end (λ b s l. at_token b s (next_token (b ∷ s)) (lex (past_first b s)) (next_starts (b ∷ s)) l) s

-- ---------------------------------------------------------------- no other

-- of two rules that stand in one list one stands before the other, or they are the same
apart : (before others behind beyond : List Rule) (r q : Rule) → before ++ (r ∷ behind) ≡ others ++ (q ∷ beyond)
    → (r ≡ q) ⊎ ((l : List Rule) × Member r others l) ⊎ ((l : List Rule) × Member q before l)
apart [] [] behind beyond r q e = inl (first_same e)
apart [] (x ∷ others) behind beyond r q e =
    inr (inl ([], record { behind = others; stands = ap (λ (y : Rule). y ∷ others) (sym (first_same e)) }))
apart (x ∷ before) [] behind beyond r q e =
    inr (inr ([], record { behind = before; stands = ap (λ (y : Rule). y ∷ before) (first_same e) }))
apart (x ∷ before) (y ∷ others) behind beyond r q e = by (apart before others behind beyond r q (rest_same e))
  where
    by : (r ≡ q) ⊎ ((l : List Rule) × Member r others l) ⊎ ((l : List Rule) × Member q before l)
        → (r ≡ q) ⊎ ((l : List Rule) × Member r (y ∷ others) l) ⊎ ((l : List Rule) × Member q (x ∷ before) l)
    by (inl s) = inl s
    by (inr (inl l)) = inr (inl (y ∷ l.0, one_on l.1))
    by (inr (inr l)) = inr (inr (x ∷ l.0, one_on l.1))

-- a winner's length is no less than another's
no_less : {s : List ℕ} {n m : ℕ} {before others : List Rule} {r q : Rule} → Wins s n before r → Wins s m others q → m ≤ n
no_less {n = n} {m = m} {others = others} {q = q} w v = by (ltb n m) refl
  where
    by : (f : Bool) → ltb n m ≡ f → m ≤ n
    by true e = absurd (w.none_longer m q others (ltb-true n m e) v.a_rule v.it_matches)
    by false e = ltb-false n m e

one_rule : (s : List ℕ) (n : ℕ) (before others : List Rule) (r q : Rule) → Wins s n before r → Wins s n others q → r ≡ q
one_rule s n before others r q w v =
    by (apart before others w.a_rule.behind v.a_rule.behind r q (sym w.a_rule.stands ∙ v.a_rule.stands))
  where
    by : (r ≡ q) ⊎ ((l : List Rule) × Member r others l) ⊎ ((l : List Rule) × Member q before l) → r ≡ q
    by (inl e) = e
    by (inr (inl l)) = absurd (v.none_before r l.0 l.1 w.it_matches)
    by (inr (inr l)) = absurd (w.none_before q l.0 l.1 v.it_matches)

one_start : (s : List ℕ) (t u : Token) → Starts s t → Starts s u → t ≡ u
one_start s t u (by_rule n before r w) (by_rule m others q v) =
    let e : m ≡ n = omega (arith, no_less w v, no_less v w) in
    let x : Wins s n others q = subst (λ (k : ℕ). Wins s k others q) e v in
    let f : r ≡ q = one_rule s n before others r q w x in
    λ i. finish (sym e i) (f i).kind (f i).callback (drop (sym e i) s)
one_start s t u (by_rule n before r w) (by_none h) = absurd (h n r before w.a_rule w.it_matches)
one_start s t u (by_none h) (by_rule n before r w) = absurd (h n r before w.a_rule w.it_matches)
one_start s t u (by_none h) (by_none g) = refl

no_other : (s : List ℕ) (ts : List Token) → Lexing s ts → ts ≡ lex s
unfolding lex_after
no_other s ts at_end = refl
no_other s ts (at_token b r t us h l) =
    let e : t ≡ next_token (b ∷ r) = one_start (b ∷ r) t (next_token (b ∷ r)) h (next_starts (b ∷ r)) in
    ap (λ (vs : List Token). t ∷ vs) (no_other (drop t.len (b ∷ r)) us l)
    ∙ (λ i. e i ∷ lex (drop (e i).len (b ∷ r))) ∙ sym (lex_next b r)

pub by_rules : ByRules
by_rules = record { they_are = they_are; no_other = no_other }
