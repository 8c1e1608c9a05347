-- SCAN, proved: for any rules rs that are left after n bytes, with the match m so far, a scan of s gives the longest
-- front of s, one byte at least, that one of rs fits, and m where there is none. By induction over s: a byte read is a
-- byte less to fit (`remainders`).
use Prim.Native.Nat.{ℕ, zero, suc, ◌+◌}
use native.Mathlib.Omega.{arith}
use mathlib.Core.Path.{◌≡◌, refl, sym, ap, ◌∙◌}
use mathlib.Core.Bool.{Bool, true, false, cond}
use mathlib.Core.List.{List, [], ◌∷◌}
use lib.ListN.{length, take}
use Rattle.definitions.specs.Pattern.{Pattern, fits}
use Rattle.definitions.specs.Rules.{Rule, rules}
use Rattle.definitions.specs.Lex.{Match, no_match, matched, else, first_rule, longest}
use Rattle.patterns.specs.Remainder.{fits_empty, is_nothing, after}
use Rattle.patterns.proofs.Plain.{nothing_is}
use Rattle.patterns.proofs.Remainder.{remainders}
use Rattle.lexing.specs.Scan.{go_on, better, no_rules, scan, Scan}

-- ---------------------------------------------------------------- matches

else_none : (a : Match) → else a no_match ≡ a
else_none no_match = refl
else_none (matched n k c) = refl

else_else : (a b c : Match) → else (else a b) c ≡ else a (else b c)
else_else no_match b c = refl
else_else (matched n k d) b c = refl

-- ---------------------------------------------------------------- the rules that are left

nothing_fits : (p : Pattern) (u : List ℕ) → is_nothing p ≡ true → fits p u ≡ false
unfolding fits
nothing_fits p u e = ap (λ (q : Pattern). fits q u) (nothing_is p e)

-- a rule that is not gone on with fits nothing more; the others fit what they fitted with the byte in front
pub read : (n b : ℕ) (u : List ℕ) (rs : List Rule) → first_rule n (go_on b rs) u ≡ first_rule n rs (b ∷ u)
unfolding first_rule go_on
read n b u [] = refl
read n b u (r ∷ rs) = go (is_nothing p) refl (read n b u rs)
  where
    p : Pattern
    p = after b r.pattern

    l : List Rule
    l = go_on b rs

    it : Match
    it = matched n r.kind r.callback

    go : (f : Bool) → is_nothing p ≡ f → first_rule n l u ≡ first_rule n rs (b ∷ u)
        → first_rule n (cond f l (record { kind = r.kind; pattern = p; callback = r.callback } ∷ l)) u
        ≡ cond (fits r.pattern (b ∷ u)) it (first_rule n rs (b ∷ u))
    go true e i =
        i ∙ sym (ap (λ (t : Bool). cond t it (first_rule n rs (b ∷ u))) (remainders.at_byte r.pattern b u ∙ nothing_fits p u e))
    go false e i =
        ap (cond (fits p u) it) i
        ∙ sym (ap (λ (t : Bool). cond t it (first_rule n rs (b ∷ u))) (remainders.at_byte r.pattern b u))

-- what has been read to its end matches
pub better_first : (n : ℕ) (rs : List Rule) (m : Match) → better n rs m ≡ else (first_rule n rs []) m
unfolding better first_rule
better_first n [] m = refl
better_first n (r ∷ rs) m =
    go (fits_empty r.pattern) (better_first n rs m)
    ∙ sym (ap (λ (t : Bool). else (cond t it (first_rule n rs [])) m) (remainders.at_end r.pattern))
  where
    it : Match
    it = matched n r.kind r.callback

    go : (f : Bool) → better n rs m ≡ else (first_rule n rs []) m → cond f it (better n rs m) ≡ else (cond f it (first_rule n rs [])) m
    go true i = refl
    go false i = i

-- ---------------------------------------------------------------- one byte of a scan

-- the scan's test for no rules only saves work: without rules a scan finds nothing more
pub none_left : (n : ℕ) (m : Match) (s : List ℕ) → scan [] n m s ≡ m
unfolding scan go_on
none_left n m [] = refl
none_left n m (b ∷ s) = refl

pub one_byte : (rs : List Rule) (n b : ℕ) (m : Match) (s : List ℕ)
    → scan rs n m (b ∷ s) ≡ scan (go_on b rs) (suc n) (better (suc n) (go_on b rs) m) s
unfolding scan better
one_byte rs n b m s = go (go_on b rs)
  where
    go : (l : List Rule) → cond (no_rules l) m (scan l (suc n) (better (suc n) l m) s) ≡ scan l (suc n) (better (suc n) l m) s
    go [] = sym (none_left (suc n) m s)
    go (r ∷ rs) = refl

-- ---------------------------------------------------------------- a whole scan

-- of the first k bytes of s, else of fewer, after n bytes that were read: `longest`, for any rules
longest_of : List Rule → ℕ → ℕ → List ℕ → Match
longest_of rs n zero s = no_match
longest_of rs n (suc k) s = else (first_rule (n + suc k) rs (take (suc k) s)) (longest_of rs n k s)

-- the first byte is read first: it alone is the last resort
first_read : (rs : List Rule) (n k b : ℕ) (s : List ℕ)
    → longest_of rs n (suc k) (b ∷ s) ≡ else (longest_of (go_on b rs) (suc n) k s) (first_rule (suc n) (go_on b rs) [])
unfolding longest_of
first_read rs n zero b s =
    let e : n + 1 ≡ suc n = omega arith in
    else_none (first_rule (n + 1) rs (b ∷ [])) ∙ ap (λ (i : ℕ). first_rule i rs (b ∷ [])) e ∙ sym (read (suc n) b [] rs)
first_read rs n (suc k) b s =
    let l = go_on b rs in
    let u = take (suc k) s in
    let e : n + suc (suc k) ≡ suc n + suc k = omega arith in
    ap (λ (i : ℕ). else (first_rule i rs (b ∷ u)) (longest_of rs n (suc k) (b ∷ s))) e
    ∙ ap (λ (x : Match). else x (longest_of rs n (suc k) (b ∷ s))) (sym (read (suc n + suc k) b u rs))
    ∙ ap (else (first_rule (suc n + suc k) l u)) (first_read rs n k b s)
    ∙ sym (else_else (first_rule (suc n + suc k) l u) (longest_of l (suc n) k s) (first_rule (suc n) l []))

scan_longest : (rs : List Rule) (n : ℕ) (m : Match) (s : List ℕ) → scan rs n m s ≡ else (longest_of rs n (length s) s) m
unfolding scan longest_of
scan_longest rs n m [] = refl
scan_longest rs n m (b ∷ s) =
    let l = go_on b rs in
    one_byte rs n b m s
    ∙ scan_longest l (suc n) (better (suc n) l m) s
    ∙ ap (else (longest_of l (suc n) (length s) s)) (better_first (suc n) l m)
    ∙ sym (else_else (longest_of l (suc n) (length s) s) (first_rule (suc n) l []) m)
    ∙ sym (ap (λ (x : Match). else x m) (first_read rs n (length s) b s))

-- of all rules, from the start of a text
from_start : (k : ℕ) (s : List ℕ) → longest_of rules 0 k s ≡ longest k s
unfolding longest longest_of
from_start zero s = refl
from_start (suc k) s =
    let e : 0 + suc k ≡ suc k = omega arith in
    ap (λ (i : ℕ). else (first_rule i rules (take (suc k) s)) (longest_of rules 0 k s)) e
    ∙ ap (else (first_rule (suc k) rules (take (suc k) s))) (from_start k s)

pub scans : Scan
scans s = scan_longest rules 0 no_match s ∙ else_none (longest_of rules 0 (length s) s) ∙ from_start (length s) s
