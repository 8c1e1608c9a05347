-- Lists of expectations without repeats: kept by a push, and never more than 69. The codes of such a list are counted
-- by the digits of two words, one for the kinds and one for the others, as the code keeps them.
use Prim.Native.Nat.{ℕ, suc, ◌+◌, ◌-◌, ◌^◌, ◌≤◌, ◌<◌}
use native.Mathlib.Omega.{arith}
use mathlib.Core.Path.{◌≡◌, refl, sym, ap, subst, ◌∙◌}
use mathlib.Core.Bool.{Bool, true, false, cond, ◌||◌, true≢false}
use mathlib.Core.List.{List, [], ◌∷◌, ◌++◌}
use lib.Dec.{leb, eqb}
use lib.ListN.{length, length-append}
use lib.Count.{ones, ones-le}
use lib.Pow.{pow_pos}
use borrow.Author.Tests.{ltb-true, leb-true, eqb-true, eqb-false}
use Rattle.definitions.specs.Layout.{KIND_CODES, FIRST_OTHER, OTHER_CODES}
use Rattle.definitions.specs.Token.{one_of}
use Rattle.definitions.specs.Once.{pushed_once}
use Rattle.basics.specs.WordSet.{WORD_BITS, in_word, put_in_word}
use Rattle.basics.proofs.WordSet.{in_put, in_put_other, in_nothing, put_below, put_counts}
use Rattle.basics.proofs.Tests.{cond-with, and_left, and_right, eqb_swap}
use Rattle.laws.specs.Once.{is_kind, is_other, is_expectation, Expectations, Different, Listed}

-- ---------------------------------------------------------------- a code at the end of a list

pub expectations_append : (l : List ℕ) (k : ℕ) → Expectations l → is_expectation k ≡ true → Expectations (l ++ (k ∷ []))
expectations_append [] k h e = (e, tt)
expectations_append (j ∷ l) k h e = (h.0, expectations_append l k h.1 e)

-- whether j is in a list with k at its end
in_append : (l : List ℕ) (k j : ℕ) → one_of l j ≡ false → eqb k j ≡ false → one_of (l ++ (k ∷ [])) j ≡ false
unfolding one_of
in_append [] k j h e = ap (λ (b : Bool). cond b true false) e
in_append (i ∷ l) k j h e =
    cond-with (λ (r : Bool). r ≡ false → cond (eqb i j) true (one_of (l ++ (k ∷ [])) j) ≡ false) (eqb i j) {x = true} {y = one_of l j}
    (λ _ g. absurd (true≢false g))
    (λ f g. ap (λ (b : Bool). cond b true (one_of (l ++ (k ∷ [])) j)) f ∙ in_append l k j g e)
    h

-- a code that is not in a list is none of its codes, and is not in its rest
not_first : (i k : ℕ) (l : List ℕ) → one_of (i ∷ l) k ≡ false → eqb i k ≡ false
unfolding one_of
not_first i k l h =
    cond-with (λ (r : Bool). r ≡ false → eqb i k ≡ false) (eqb i k) {x = true} {y = one_of l k} (λ _ g. absurd (true≢false g)) (λ f _. f) h

not_in_rest : (i k : ℕ) (l : List ℕ) → one_of (i ∷ l) k ≡ false → one_of l k ≡ false
unfolding one_of
not_in_rest i k l h = sym (ap (λ (b : Bool). cond b true (one_of l k)) (not_first i k l h)) ∙ h

pub different_append : (l : List ℕ) (k : ℕ) → Different l → one_of l k ≡ false → Different (l ++ (k ∷ []))
unfolding one_of
different_append [] k h e = (refl, tt)
different_append (j ∷ l) k h e = (in_append l k j h.0 (eqb_swap k j ∙ not_first j k l e), different_append l k h.1 (not_in_rest j k l e))

-- whether j is in a list with k at its end
one_of_append : (l : List ℕ) (k j : ℕ) → one_of (l ++ (k ∷ [])) j ≡ one_of l j || eqb k j
unfolding one_of
one_of_append [] k j = alone (eqb k j)
  where
    alone : (b : Bool) → cond b true false ≡ b
    alone true = refl
    alone false = refl
one_of_append (i ∷ l) k j = after (eqb i j) (one_of (l ++ (k ∷ [])) j) (one_of l j) (one_of_append l k j)
  where
    after : (b c d : Bool) → c ≡ d || eqb k j → cond b true c ≡ cond b true d || eqb k j
    after true c d e = refl
    after false c d e = e

-- ---------------------------------------------------------------- the two words

-- the digit of another expectation
abbrev pub other_digit : ℕ → ℕ
other_digit k = k - FIRST_OTHER

unfoldable pub kinds_from : ℕ → List ℕ → ℕ
unfolding is_kind
kinds_from x [] = x
kinds_from x (k ∷ l) = kinds_from (cond (is_kind k) (put_in_word k x) x) l

unfoldable pub others_from : ℕ → List ℕ → ℕ
unfolding is_kind
others_from x [] = x
others_from x (k ∷ l) = others_from (cond (is_kind k) x (put_in_word (other_digit k) x)) l

-- the kinds of a list as a word, and the others
abbrev pub kinds_of : List ℕ → ℕ
kinds_of l = kinds_from 0 l

abbrev pub others_of : List ℕ → ℕ
others_of l = others_from 0 l

pub kinds_append : (x : ℕ) (l : List ℕ) (k : ℕ) → kinds_from x (l ++ (k ∷ [])) ≡ cond (is_kind k) (put_in_word k (kinds_from x l)) (kinds_from x l)
unfolding kinds_from
kinds_append x [] k = refl
kinds_append x (j ∷ l) k = kinds_append (cond (is_kind j) (put_in_word j x) x) l k

pub others_append : (x : ℕ) (l : List ℕ) (k : ℕ) → others_from x (l ++ (k ∷ [])) ≡ cond (is_kind k) (others_from x l) (put_in_word (other_digit k) (others_from x l))
unfolding others_from
others_append x [] k = refl
others_append x (j ∷ l) k = others_append (cond (is_kind j) x (put_in_word (other_digit j) x)) l k

-- x and y hold the codes of l: its kinds, and its others
pub record Words (l : List ℕ) (x y : ℕ) : Type 0 where
  pub expectations : Expectations l
  pub different : Different l
  pub kind : (j : ℕ) → is_kind j ≡ true → in_word j x ≡ one_of l j
  pub other : (j : ℕ) → is_other j ≡ true → in_word (other_digit j) y ≡ one_of l j
  pub kinds_below : x < 2 ^ KIND_CODES
  pub others_below : y < 2 ^ OTHER_CODES
  pub count : ones x + ones y ≡ length l

kind_below : (k : ℕ) → is_kind k ≡ true → k < KIND_CODES
unfolding is_kind
kind_below k e = ltb-true k KIND_CODES e

pub record OtherCode (k : ℕ) : Type 0 where
  pub from : FIRST_OTHER ≤ k
  pub to : k < FIRST_OTHER + OTHER_CODES

pub other_code : (k : ℕ) → is_other k ≡ true → OtherCode k
unfolding is_other
other_code k e = record { from = leb-true FIRST_OTHER k (and_left _ _ e); to = ltb-true k (FIRST_OTHER + OTHER_CODES) (and_right (leb FIRST_OTHER k) _ e) }

-- a kind is not another expectation
apart : (j k : ℕ) → is_kind j ≡ true → is_other k ≡ true → eqb k j ≡ false
apart j k e f = by_test (eqb k j) refl
  where
    by_test : (b : Bool) → eqb k j ≡ b → eqb k j ≡ false
    by_test true g = absurd (let h : k ≡ j = eqb-true k j g in omega (arith, kind_below j e, (other_code k f).from, h))
    by_test false g = g

pub words_none : Words [] 0 0
unfolding one_of ones
words_none =
    record {
      expectations = tt;
      different = tt;
      kind = λ j e. in_nothing j (let h : j < KIND_CODES = kind_below j e in omega (arith, h));
      other = λ j e. in_nothing (other_digit j) (let h = other_code j e in omega (arith, h.from, h.to));
      kinds_below = pow_pos KIND_CODES;
      others_below = pow_pos OTHER_CODES;
      count = refl;
    }

-- what is in a word once n is put in
in_word_put : (m n x : ℕ) → m < WORD_BITS → n < WORD_BITS → in_word m (put_in_word n x) ≡ in_word m x || eqb m n
in_word_put m n x h k = by_test (eqb m n) refl
  where
    or_true : (c : Bool) → c || true ≡ true
    or_true true = refl
    or_true false = refl

    or_false : (c : Bool) → c || false ≡ c
    or_false true = refl
    or_false false = refl

    by_test : (b : Bool) → eqb m n ≡ b → in_word m (put_in_word n x) ≡ in_word m x || b
    by_test true e = ap (λ (i : ℕ). in_word i (put_in_word n x)) (eqb-true m n e) ∙ in_put n x k ∙ sym (or_true (in_word m x))
    by_test false e = in_put_other m n x h k e ∙ sym (or_false (in_word m x))

-- a code that is put in is in the list, and so is no other
in_list : (l : List ℕ) (k j : ℕ) (b : Bool) → b ≡ one_of l j → b || eqb j k ≡ one_of (l ++ (k ∷ [])) j
in_list l k j b e = ap (λ (c : Bool). c || eqb j k) e ∙ ap (λ (c : Bool). one_of l j || c) (eqb_swap j k) ∙ sym (one_of_append l k j)

-- a code of the other word leaves this one alone
not_in_list : (l : List ℕ) (k j : ℕ) (b : Bool) → eqb k j ≡ false → b ≡ one_of l j → b ≡ one_of (l ++ (k ∷ [])) j
not_in_list l k j b f e = e ∙ sym (or_false (one_of l j)) ∙ ap (λ (c : Bool). one_of l j || c) (sym f) ∙ sym (one_of_append l k j)
  where
    or_false : (c : Bool) → c || false ≡ c
    or_false true = refl
    or_false false = refl

-- the digits of two others are the same exactly if they are
same_digit : (j k : ℕ) → OtherCode j → OtherCode k → eqb (other_digit j) (other_digit k) ≡ eqb j k
same_digit j k p q = by_test (eqb j k) (eqb (other_digit j) (other_digit k)) refl refl
  where
    by_test : (b c : Bool) → eqb j k ≡ b → eqb (other_digit j) (other_digit k) ≡ c → c ≡ b
    by_test true true e f = refl
    by_test true false e f = absurd (eqb-false (other_digit j) (other_digit k) f (ap other_digit (eqb-true j k e)))
    by_test false true e f = absurd (let g : other_digit j ≡ other_digit k = eqb-true (other_digit j) (other_digit k) f in omega (arith, p.from, q.from, g, eqb-false j k e))
    by_test false false e f = refl

pub words_kind : (l : List ℕ) (x y k : ℕ) → Words l x y → is_kind k ≡ true → one_of l k ≡ false → Words (l ++ (k ∷ [])) (put_in_word k x) y
unfolding is_expectation
words_kind l x y k w e f =
    let b : k < KIND_CODES = kind_below k e in
    let n : k < WORD_BITS = omega (arith, b) in
    record {
      expectations = expectations_append l k w.expectations (ap (λ (c : Bool). c || is_other k) e);
      different = different_append l k w.different f;
      kind = λ j h. in_word_put j k x (let c : j < KIND_CODES = kind_below j h in omega (arith, c)) n ∙ in_list l k j (in_word j x) (w.kind j h);
      other = λ j h. not_in_list l k j _ (eqb_swap k j ∙ apart k j e h) (w.other j h);
      kinds_below = put_below KIND_CODES k x b (omega arith) w.kinds_below;
      others_below = w.others_below;
      count = let c : ones (put_in_word k x) ≡ suc (ones x) = put_counts k x n (w.kind k e ∙ f) in simp length-append (omega (arith, c, w.count));
    }

pub words_other : (l : List ℕ) (x y k : ℕ) → Words l x y → is_other k ≡ true → one_of l k ≡ false → Words (l ++ (k ∷ [])) x (put_in_word (other_digit k) y)
unfolding is_expectation
words_other l x y k w e f =
    let o : OtherCode k = other_code k e in
    let b : other_digit k < OTHER_CODES = omega (arith, o.from, o.to) in
    let n : other_digit k < WORD_BITS = omega (arith, b) in
    record {
      expectations = expectations_append l k w.expectations (any (is_kind k) ∙ e);
      different = different_append l k w.different f;
      kind = λ j h. not_in_list l k j _ (apart j k h e) (w.kind j h);
      other = λ j h.
          let p : OtherCode j = other_code j h in
          in_word_put (other_digit j) (other_digit k) y (omega (arith, p.from, p.to)) n
          ∙ ap (λ (c : Bool). in_word (other_digit j) y || c) (same_digit j k p o)
          ∙ in_list l k j (in_word (other_digit j) y) (w.other j h);
      kinds_below = w.kinds_below;
      others_below = put_below OTHER_CODES (other_digit k) y b (omega arith) w.others_below;
      count = let c : ones (put_in_word (other_digit k) y) ≡ suc (ones y) = put_counts (other_digit k) y n (w.other k e ∙ f) in simp length-append (omega (arith, c, w.count));
    }
  where
    any : (c : Bool) → c || is_other k ≡ is_other k
    any true = sym e
    any false = refl

-- AT MOST 69: there are no more digits
pub words_listed : (l : List ℕ) (x y : ℕ) → Words l x y → Listed l
words_listed l x y w =
    record {
      expectations = w.expectations;
      different = w.different;
      few = omega (arith, w.count, ones-le KIND_CODES x w.kinds_below, ones-le OTHER_CODES y w.others_below);
    }

-- ---------------------------------------------------------------- a push

-- the words of a list
pub record Held (l : List ℕ) : Type 0 where
  pub words : Words l (kinds_of l) (others_of l)

pub held_none : Held []
unfolding kinds_from others_from
held_none = record { words = words_none }

-- an expectation is a kind, or it is not and is one of the others
pub by_code : (P : Type 0) (k : ℕ) → is_expectation k ≡ true → (is_kind k ≡ true → P) → (is_kind k ≡ false → is_other k ≡ true → P) → P
unfolding is_expectation
by_code P k e p q = by_test (is_kind k) refl e
  where
    by_test : (b : Bool) → is_kind k ≡ b → b || is_other k ≡ true → P
    by_test true f h = p f
    by_test false f h = q f h

pub held_append : (l : List ℕ) (k : ℕ) → Held l → is_expectation k ≡ true → one_of l k ≡ false → Held (l ++ (k ∷ []))
held_append l k h e f =
    by_code (Held (l ++ (k ∷ []))) k e
    (λ g. record {
      words = retold (words_kind l (kinds_of l) (others_of l) k h.words g f)
          (kinds_append 0 l k ∙ ap (λ (b : Bool). cond b (put_in_word k (kinds_of l)) (kinds_of l)) g)
          (others_append 0 l k ∙ ap (λ (b : Bool). cond b (others_of l) (put_in_word (other_digit k) (others_of l))) g);
    })
    (λ g i. record {
      words = retold (words_other l (kinds_of l) (others_of l) k h.words i f)
          (kinds_append 0 l k ∙ ap (λ (b : Bool). cond b (put_in_word k (kinds_of l)) (kinds_of l)) g)
          (others_append 0 l k ∙ ap (λ (b : Bool). cond b (others_of l) (put_in_word (other_digit k) (others_of l))) g);
    })
  where
    retold : {x y : ℕ} → Words (l ++ (k ∷ [])) x y → kinds_of (l ++ (k ∷ [])) ≡ x → others_of (l ++ (k ∷ [])) ≡ y → Words (l ++ (k ∷ [])) (kinds_of (l ++ (k ∷ []))) (others_of (l ++ (k ∷ [])))
    retold {x} {y} w p q = subst (λ (u : ℕ). Words (l ++ (k ∷ [])) u (others_of (l ++ (k ∷ [])))) (sym p) (subst (λ (v : ℕ). Words (l ++ (k ∷ [])) x v) (sym q) w)

pub held_push : (l : List ℕ) (k : ℕ) → Held l → is_expectation k ≡ true → Held (pushed_once k l)
unfolding pushed_once
held_push l k h e = cond-with Held (one_of l k) {x = l} {y = l ++ (k ∷ [])} (λ _. h) (λ f. held_append l k h e f)

pub held_listed : (l : List ℕ) → Held l → Listed l
held_listed l h = words_listed l (kinds_of l) (others_of l) h.words
