-- The rule as the definitions test it is the rule as specs/Exactly.antt words it; so is the test for braces.
use Prim.Native.Nat.{ℕ, ◌≤◌}
use native.Mathlib.Omega.{arith}
use mathlib.Core.Path.{◌≡◌, refl}
use mathlib.Core.Bool.{Bool, true, false, not, ◌&&◌, ◌||◌, true≢false, false≢true}
use mathlib.Core.List.{List, [], ◌∷◌}
use mathlib.Core.Logic.{◌⊎◌, inl, inr}
use lib.Dec.{leb, eqb}
use borrow.Author.Tests.{leb-true, leb-false, eqb-true, eqb-false}
use Rattle.definitions.specs.TokenKind as K
use Rattle.definitions.specs.Place.{Tree, nil, leaf, subtree}
use Rattle.definitions.specs.Strict.{is_letter, is_digit, in_label, keeps_rule, has_lcurly}
use Rattle.laws.proofs.Decode.{shown}
use Rattle.strict.specs.Exactly.{Letter, lower, upper, underscore, Digit, InLabel, LeadingDigit, KeepsRule, Unbraced}

-- a test says whether something holds
pub record Says (b : Bool) (P : Type 0) : Type 0 where
  pub yes : b ≡ true → P
  pub no : b ≡ false → P → ⊥

pub says_true : (b : Bool) {P : Type 0} → Says b P → P → b ≡ true
says_true true s p = refl
says_true false s p = absurd (s.no refl p)

pub says_false : (b : Bool) {P : Type 0} → Says b P → (P → ⊥) → b ≡ false
says_false true s p = absurd (p (s.yes refl))
says_false false s p = refl

says_same : {b : Bool} {P Q : Type 0} → (P → Q) → (Q → P) → Says b P → Says b Q
says_same f g s = record { yes = λ e. f (s.yes e); no = λ e q. s.no e (g q) }

pub says_and : (a b : Bool) {P Q : Type 0} → Says a P → Says b Q → Says (a && b) (P × Q)
says_and true b s t = record { yes = λ e. (s.yes refl, t.yes e); no = λ e p. t.no e p.1 }
says_and false b s t = record { yes = λ e. absurd (false≢true e); no = λ e p. s.no refl p.0 }

pub says_or : (a b : Bool) {P Q : Type 0} → Says a P → Says b Q → Says (a || b) (P ⊎ Q)
says_or true b {P} {Q} s t = record { yes = λ e. inl (s.yes refl); no = λ e. absurd (true≢false e) }
says_or false b {P} {Q} s t = record { yes = λ e. inr (t.yes e); no = neither }
  where
    neither : b ≡ false → P ⊎ Q → ⊥
    neither e (inl p) = s.no refl p
    neither e (inr q) = t.no e q

says_neither : (a b : Bool) {P Q : Type 0} → Says a P → Says (not b) Q → Says (not (a || b)) ((P → ⊥) × Q)
says_neither true b s t = record { yes = λ e. absurd (false≢true e); no = λ e p. p.0 (s.yes refl) }
says_neither false b s t = record { yes = λ e. (s.no refl, t.yes e); no = λ e p. t.no e p.1 }

says_leb : (m n : ℕ) → Says (leb m n) (m ≤ n)
says_leb m n = record { yes = leb-true m n; no = λ e p. omega (arith, leb-false m n e, p) }

pub says_eqb : (m n : ℕ) → Says (eqb m n) (m ≡ n)
says_eqb m n = record { yes = eqb-true m n; no = eqb-false m n }

-- ---------------------------------------------------------------- the rule

letter_says : (b : ℕ) → Says (is_letter b) (Letter b)
letter_says b =
    says_same to from
    (says_or (leb 97 b && leb b 122 || leb 65 b && leb b 90) (eqb b 95)
    (says_or (leb 97 b && leb b 122) (leb 65 b && leb b 90) (says_and (leb 97 b) (leb b 122) (says_leb 97 b) (says_leb b 122)) (says_and (leb 65 b) (leb b 90) (says_leb 65 b) (says_leb b 90)))
    (says_eqb b 95))
  where
    to : (((97 ≤ b) × (b ≤ 122)) ⊎ ((65 ≤ b) × (b ≤ 90))) ⊎ (b ≡ 95) → Letter b
    to (inl (inl h)) = lower h.0 h.1
    to (inl (inr h)) = upper h.0 h.1
    to (inr h) = underscore h

    from : Letter b → (((97 ≤ b) × (b ≤ 122)) ⊎ ((65 ≤ b) × (b ≤ 90))) ⊎ (b ≡ 95)
    from (lower h g) = inl (inl (h, g))
    from (upper h g) = inl (inr (h, g))
    from (underscore h) = inr h

digit_says : (b : ℕ) → Says (is_digit b) (Digit b)
digit_says b = says_same (λ h. record { least = h.0; most = h.1 }) (λ d. (d.least, d.most)) (says_and (leb 48 b) (leb b 57) (says_leb 48 b) (says_leb b 57))

in_label_says : (l : List ℕ) → Says (in_label l) (InLabel l)
unfolding in_label InLabel
in_label_says [] = record { yes = λ e. tt; no = λ e. absurd (true≢false e) }
in_label_says (b ∷ l) = says_and (is_letter b || is_digit b) (in_label l) (says_or (is_letter b) (is_digit b) (letter_says b) (digit_says b)) (in_label_says l)

letter_digit : (b : ℕ) → Letter b → Digit b → ⊥
letter_digit b (lower h g) d = omega arith
letter_digit b (upper h g) d = omega arith
letter_digit b (underscore h) d = omega arith

pub rule_says : (l : List ℕ) → Says (keeps_rule l) (KeepsRule l)
unfolding keeps_rule InLabel LeadingDigit
rule_says [] = record { yes = λ e. record { holds = tt; leads = λ h. h }; no = λ e. absurd (true≢false e) }
rule_says (b ∷ l) = says_same to from (says_and (is_letter b) (in_label l) (letter_says b) (in_label_says l))
  where
    to : Letter b × InLabel l → KeepsRule (b ∷ l)
    to h = record { holds = (inl h.0, h.1); leads = letter_digit b h.0 }

    pick : Letter b ⊎ Digit b → (Digit b → ⊥) → Letter b
    pick (inl h) g = h
    pick (inr h) g = absurd (g h)

    from : KeepsRule (b ∷ l) → Letter b × InLabel l
    from h = (pick h.holds.0 h.leads, h.holds.1)

-- ---------------------------------------------------------------- braces

pub unbraced_says : (t : Tree) → Says (not (has_lcurly t)) (Unbraced (shown t))
unfolding has_lcurly Unbraced shown
unbraced_says nil = record { yes = λ e. tt; no = λ e. absurd (true≢false e) }
unbraced_says (leaf k ts f) = says_neither (eqb k K.LCurly) (has_lcurly f) (says_eqb k K.LCurly) (unbraced_says f)
unbraced_says (subtree k c f) = unbraced_says f
