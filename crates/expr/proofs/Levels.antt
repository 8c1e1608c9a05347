-- The definitions' levels by kind. A turn over infix operators tries one level after the other; which one it takes is
-- decided by the kind at the cursor alone.
use Prim.Native.Nat.{ℕ, zero, suc, ◌+◌}
use mathlib.Core.Path.{◌≡◌, refl, sym, ap, ◌∙◌}
use mathlib.Core.Bool.{Bool, true, false, cond, ◌&&◌}
use mathlib.Core.List.{List, [], ◌∷◌}
use native.Mathlib.Omega.{arith}
use lib.Dec.{ltb, eqb}
use lib.ListN.{drop}
use borrow.Author.Tests.{ltb-true, ne_eqb}
use Rattle.definitions.specs.TokenKind as K
use Rattle.definitions.specs.Errors as E
use Rattle.definitions.specs.Token.{Token, seen, trivia, past, one_of, first_in}
use Rattle.definitions.specs.Skeleton.{Span}
use Rattle.definitions.specs.Prog.{choose, yes, Rule, less, Prog, act, ◌⨟◌, case}
use Rattle.definitions.specs.Check.{tell, when◌then◌else◌, bump!, expected, set, of_kind, silent}
use Rattle.definitions.specs.BindingPower.{Level, binary_levels, left_power, right_power, ternary_left, ternary_right}
use Rattle.definitions.specs.Grammar.{INFIX_BUT_TERNARY, rhs, infix_levels, infix_turn}
use Rattle.definitions.specs.Run.{truth}
use Rattle.machine.specs.Machine.{Machine, rest, passed, skip, peek, expect_code}
use Rattle.machine.specs.Walk.{Walked, said, perform, walk}
use Rattle.token_rows.specs.Tokens.{SEEN_AT_END, kind_of}
use Rattle.binding_power.specs.Power.{level_in, worked_out, left_of, right_of, is_binary}
use Rattle.basics.proofs.Tests.{and_left, and_right}
use Rattle.expr.specs.Subprograms.{ternary_rhs}
use Rattle.machine.proofs.Way.{Way, c_walk, c_act, c_ret, c_yes, c_no}

-- ---------------------------------------------------------------- a second peek moves nothing

past_drop : (c : ℕ) (ts : List Token) → drop (c + 1) ts ≡ past (drop c ts)
past_drop c ts = let e : c + 1 ≡ suc c = omega arith in ap (λ (n : ℕ). drop n ts) e ∙ go c ts
  where
    go : (c : ℕ) (ts : List Token) → drop (suc c) ts ≡ past (drop c ts)
    go zero [] = refl
    go zero (t ∷ ts) = refl
    go (suc c) [] = refl
    go (suc c) (t ∷ ts) = go c ts

skipped : (ts l : List Token) (m : Machine) → rest ts m ≡ l → skip (rest ts (skip l m)) (skip l m) ≡ skip l m
unfolding skip
skipped ts [] m e = rw e
skipped ts (t ∷ l) m e = by (trivia t) refl (skipped ts l (passed t m) (past_drop m.cursor ts ∙ ap past e))
  where
    by : (b : Bool) → trivia t ≡ b → skip (rest ts (skip l (passed t m))) (skip l (passed t m)) ≡ skip l (passed t m)
        → skip (rest ts (cond b (skip l (passed t m)) m)) (cond b (skip l (passed t m)) m) ≡ cond b (skip l (passed t m)) m
    by true f r = r
    by false f r = ap (λ (x : List Token). skip x m) e ∙ ap (λ (b : Bool). cond b (skip l (passed t m)) m) f

pub peek_peek : (ts : List Token) (m : Machine) → peek ts (peek ts m) ≡ peek ts m
unfolding peek
peek_peek ts m = skipped ts (rest ts m) m refl

-- ---------------------------------------------------------------- a level of a kind

-- every level has a number above 0
unfoldable numbered : List Level → Bool
numbered [] = true
numbered (l ∷ ls) = ltb 0 l.number && numbered ls

binary_levels_numbered : numbered binary_levels ≡ true
unfolding numbered
binary_levels_numbered = refl

-- past the last token there is no operator
pub left_end : left_of SEEN_AT_END ≡ 0
unfolding left_of one_of level_in
left_end = refl

-- ---------------------------------------------------------------- a turn, from a machine that has peeked

-- what follows the pushed expectation in a turn over infix operators
abbrev pub infix_choice : ℕ → Prog
infix_choice min =
    when silent (of_kind K.QuestionMark) then (when act (less ternary_left min) then tell yes else bump! ⨟ ternary_rhs)
    else infix_levels min binary_levels

module _ (ask : Rule → Machine → Walked) (ts : List Token) (b : Span) (min : ℕ) (m : Machine) where
  -- an operator of this level
  abbrev level_arm : ℕ → Walked
  level_arm n = cond (eqb n 0) (said yes m) (cond (ltb (left_power n) min) (said yes m) (walk ask ts b (bump! ⨟ rhs (right_power n)) m))

  -- an operator with these powers, of a level or the ternary
  abbrev pub arm : ℕ → ℕ → Walked
  arm l r = cond (eqb l 0) (said yes m) (cond (ltb l min) (said yes m) (cond (eqb l 2) (walk ask ts b (bump! ⨟ ternary_rhs) m) (walk ask ts b (bump! ⨟ rhs r) m)))

  -- a test of a set, by what is seen
  looks : peek ts m ≡ m → (ks : List ℕ) (t : Bool) → first_in ks (rest ts m) ≡ t → Way ask ts b (silent (set ks)) m (said (truth t) m)
  unfolding silent perform
  looks still ks t e = c_act (ap (λ (t : Bool). said (truth t) m) (sym e) ∙ ap (λ (x : Machine). said (truth (first_in ks (rest ts x))) x) (sym still))

  -- the power test of an operator that is there
  stronger : (l : ℕ) (p : Prog) → Way ask ts b (when act (less l min) then tell yes else p) m (cond (ltb l min) (said yes m) (walk ask ts b p m))
  unfolding perform
  stronger l p = by (ltb l min) refl
    where
      by : (t : Bool) → ltb l min ≡ t → Way ask ts b (when act (less l min) then tell yes else p) m (cond t (said yes m) (walk ask ts b p m))
      by true e = c_yes (c_act (ap (λ (t : Bool). said (truth t) m) (sym e))) refl c_ret
      by false e = c_no (c_act (ap (λ (t : Bool). said (truth t) m) (sym e))) refl (c_walk refl)

  -- at the end of the tokens no level matches
  no_level : peek ts m ≡ m → rest ts m ≡ [] → (ls : List Level) → Way ask ts b (infix_levels min ls) m (said yes m)
  unfolding infix_levels first_in
  no_level still e [] = c_ret
  no_level still e (l ∷ ls) = c_no (looks still l.kinds false (ap (first_in l.kinds) e)) refl (no_level still e ls)

  -- at a token, its level does, or none
  some_level : peek ts m ≡ m → (t : Token) (l : List Token) → rest ts m ≡ t ∷ l → (ls : List Level) → numbered ls ≡ true
      → Way ask ts b (infix_levels min ls) m (level_arm (level_in ls (seen t)))
  unfolding infix_levels first_in level_in numbered
  some_level still t l e [] h = c_ret
  some_level still t l e (x ∷ ls) h = by (one_of x.kinds (seen t)) refl (some_level still t l e ls (and_right (ltb 0 x.number) (numbered ls) h))
    where
      positive : eqb x.number 0 ≡ false
      positive = let q = ltb-true 0 x.number (and_left (ltb 0 x.number) (numbered ls) h) in ne_eqb x.number 0 (λ z. absurd (omega (arith, q, z)))

      by : (c : Bool) → one_of x.kinds (seen t) ≡ c → Way ask ts b (infix_levels min ls) m (level_arm (level_in ls (seen t)))
          → Way ask ts b (infix_levels min (x ∷ ls)) m (level_arm (cond c x.number (level_in ls (seen t))))
      by true f r =
          let n = x.number in
          c_yes (looks still x.kinds true (ap (first_in x.kinds) e ∙ f)) refl
          (c_walk (ap (λ (c : Bool). cond c (said yes m) (cond (ltb (left_power n) min) (said yes m) (walk ask ts b (bump! ⨟ rhs (right_power n)) m))) positive
          ∙ (stronger (left_power n) (bump! ⨟ rhs (right_power n))).is))
      by false f r = c_no (looks still x.kinds false (ap (first_in x.kinds) e ∙ f)) refl r

  -- a level's left power is odd, so it is neither 0, which means no operator, nor 2, the ternary's
  apart : (n : ℕ) → arm (worked_out left_power n) (worked_out right_power n) ≡ level_arm n
  apart n = by (eqb n 0)
    where
      by : (c : Bool) → arm (cond c 0 (left_power n)) (cond c 0 (right_power n))
          ≡ cond c (said yes m) (cond (ltb (left_power n) min) (said yes m) (walk ask ts b (bump! ⨟ rhs (right_power n)) m))
      by true = refl
      by false =
          let tern = walk ask ts b (bump! ⨟ ternary_rhs) m in
          let other = walk ask ts b (bump! ⨟ rhs (right_power n)) m in
          let inner : Bool → Walked = λ c. cond (ltb (left_power n) min) (said yes m) (cond c tern other) in
          ap (λ (c : Bool). cond c (said yes m) (inner (eqb (left_power n) 2))) (ne_eqb (left_power n) 0 (λ z. absurd (omega (arith, z))))
          ∙ ap inner (ne_eqb (left_power n) 2 (λ z. absurd (omega (arith, z))))

  -- at a token: the ternary, or its level
  choice_token : peek ts m ≡ m → (t : Token) (l : List Token) → rest ts m ≡ t ∷ l → (c : Bool) → one_of (K.QuestionMark ∷ []) (seen t) ≡ c
      → Way ask ts b (infix_choice min) m
      (arm (cond c ternary_left (worked_out left_power (level_in binary_levels (seen t)))) (cond c ternary_right (worked_out right_power (level_in binary_levels (seen t)))))
  unfolding first_in silent
  choice_token still t l e true f = c_yes (looks still (K.QuestionMark ∷ []) true (ap (first_in (K.QuestionMark ∷ [])) e ∙ f)) refl (stronger ternary_left (bump! ⨟ ternary_rhs))
  choice_token still t l e false f =
      c_no (looks still (K.QuestionMark ∷ []) false (ap (first_in (K.QuestionMark ∷ [])) e ∙ f)) refl
      (c_walk (apart (level_in binary_levels (seen t)) ∙ (some_level still t l e binary_levels binary_levels_numbered).is))

  choice_at : peek ts m ≡ m → (l : List Token) → rest ts m ≡ l → Way ask ts b (infix_choice min) m (arm (left_of (kind_of l)) (right_of (kind_of l)))
  unfolding left_of right_of level_in kind_of first_in one_of silent
  choice_at still [] e = c_no (looks still (K.QuestionMark ∷ []) false (ap (first_in (K.QuestionMark ∷ [])) e)) refl (no_level still e binary_levels)
  choice_at still (t ∷ l) e = choice_token still t l e (one_of (K.QuestionMark ∷ []) (seen t)) refl

  -- which arm a turn takes
  pub choice : peek ts m ≡ m → Way ask ts b (infix_choice min) m (arm (left_of (kind_of (rest ts m))) (right_of (kind_of (rest ts m))))
  choice still = choice_at still (rest ts m) refl

-- ---------------------------------------------------------------- a turn, as the code finds the operator

-- a test sees the same after a peek
silent_peeked : (ask : Rule → Machine → Walked) (ts : List Token) (b : Span) (ks : List ℕ) (n y a : Prog) (m : Machine)
    → walk ask ts b (case (silent (set ks)) n y a) (peek ts m) ≡ walk ask ts b (case (silent (set ks)) n y a) m
unfolding walk silent perform
silent_peeked ask ts b ks n y a m = ap (λ (x : Machine). choose (truth (first_in ks (rest ts x))) (walk ask ts b n) (walk ask ts b y) (walk ask ts b a) x) (peek_peek ts m)

still : (ts : List Token) (m x : Machine) → x ≡ peek ts m → peek ts x ≡ x
still ts m x e = ap (peek ts) e ∙ peek_peek ts m ∙ sym e

module _ {ask : Rule → Machine → Walked} {ts : List Token} {b : Span} {m x : Machine} (min l r : ℕ)
    (ex : x ≡ peek ts (expect_code E.InfixOperator m)) (el : l ≡ left_of (kind_of (rest ts x))) (er : r ≡ right_of (kind_of (rest ts x))) where
  turn : Way ask ts b (infix_turn min) m (arm ask ts b min x l r)
  unfolding infix_turn walk perform
  turn =
      let none = when act (less ternary_left min) then tell yes else bump! ⨟ ternary_rhs in
      record {
        is =
            ap (λ (k : ℕ). arm ask ts b min x k r) el
            ∙ ap (arm ask ts b min x (left_of (kind_of (rest ts x)))) er
            ∙ (choice ask ts b min x (still ts (expect_code E.InfixOperator m) x ex)).is
            ∙ ap (walk ask ts b (infix_choice min)) ex
            ∙ silent_peeked ask ts b (K.QuestionMark ∷ []) (infix_levels min binary_levels) none none (expect_code E.InfixOperator m);
      }

  -- no operator; one that binds too weakly; the ternary; any other
  pub turn_none : eqb l 0 ≡ true → Way ask ts b (infix_turn min) m (said yes x)
  turn_none e =
      c_walk
      (sym (ap (λ (c : Bool). cond c (said yes x) (cond (ltb l min) (said yes x) (cond (eqb l 2) (walk ask ts b (bump! ⨟ ternary_rhs) x) (walk ask ts b (bump! ⨟ rhs r) x)))) e)
      ∙ turn.is)

  pub turn_weaker : eqb l 0 ≡ false → ltb l min ≡ true → Way ask ts b (infix_turn min) m (said yes x)
  turn_weaker e f =
      c_walk
      (sym (ap (λ (c : Bool). cond c (said yes x) (cond (eqb l 2) (walk ask ts b (bump! ⨟ ternary_rhs) x) (walk ask ts b (bump! ⨟ rhs r) x))) f)
      ∙ sym (ap (λ (c : Bool). cond c (said yes x) (cond (ltb l min) (said yes x) (cond (eqb l 2) (walk ask ts b (bump! ⨟ ternary_rhs) x) (walk ask ts b (bump! ⨟ rhs r) x)))) e)
      ∙ turn.is)

  taken : eqb l 0 ≡ false → ltb l min ≡ false → Way ask ts b (infix_turn min) m (cond (eqb l 2) (walk ask ts b (bump! ⨟ ternary_rhs) x) (walk ask ts b (bump! ⨟ rhs r) x))
  taken e f =
      c_walk
      (sym (ap (λ (c : Bool). cond c (said yes x) (cond (eqb l 2) (walk ask ts b (bump! ⨟ ternary_rhs) x) (walk ask ts b (bump! ⨟ rhs r) x))) f)
      ∙ sym (ap (λ (c : Bool). cond c (said yes x) (cond (ltb l min) (said yes x) (cond (eqb l 2) (walk ask ts b (bump! ⨟ ternary_rhs) x) (walk ask ts b (bump! ⨟ rhs r) x)))) e)
      ∙ turn.is)

  pub turn_ternary : {w : Walked} → eqb l 0 ≡ false → ltb l min ≡ false → eqb l 2 ≡ true → Way ask ts b (bump! ⨟ ternary_rhs) x w → Way ask ts b (infix_turn min) m w
  turn_ternary e f g h =
      c_walk (h.is ∙ sym (ap (λ (c : Bool). cond c (walk ask ts b (bump! ⨟ ternary_rhs) x) (walk ask ts b (bump! ⨟ rhs r) x)) g) ∙ (taken e f).is)

  pub turn_binary : {w : Walked} → eqb l 0 ≡ false → ltb l min ≡ false → eqb l 2 ≡ false → Way ask ts b (bump! ⨟ rhs r) x w → Way ask ts b (infix_turn min) m w
  turn_binary e f g h =
      c_walk (h.is ∙ sym (ap (λ (c : Bool). cond c (walk ask ts b (bump! ⨟ ternary_rhs) x) (walk ask ts b (bump! ⨟ rhs r) x)) g) ∙ (taken e f).is)

-- ---------------------------------------------------------------- `InfixOp::at` where an expression has no left side

-- past the last token there is no operator
binary_first : (l : List Token) → first_in INFIX_BUT_TERNARY l ≡ is_binary (kind_of l)
unfolding first_in kind_of is_binary one_of
binary_first [] = refl
binary_first (t ∷ l) = refl

pub at_binary : {ask : Rule → Machine → Walked} {ts : List Token} {b : Span} {m x : Machine} (c : Bool)
    → x ≡ peek ts (expect_code E.InfixOperator m) → c ≡ is_binary (kind_of (rest ts x))
    → Way ask ts b (expected E.InfixOperator ⨟ silent (set INFIX_BUT_TERNARY)) m (said (truth c) x)
unfolding walk perform silent
at_binary {ts = ts} {x = x} c ex ec =
    c_walk
    (ap (λ (t : Bool). said (truth t) x) (ec ∙ sym (binary_first (rest ts x)))
    ∙ ap (λ (y : Machine). said (truth (first_in INFIX_BUT_TERNARY (rest ts y))) y) ex)
