-- Each expectation once: the machine's list and words, while each word holds what is in the list, are those of the list
-- with the expectation pushed; and the digits of the words are as many as the list is long.
use Prim.Native.Nat.{ℕ, ◌+◌}
use native.Mathlib.Omega.{arith}
use mathlib.Core.Path.{◌≡◌, refl, sym, ap, ◌∙◌}
use mathlib.Core.Bool.{Bool, true, false, cond}
use mathlib.Core.List.{List, [], ◌∷◌, ◌++◌}
use lib.Dec.{ltb, leb, eqb}
use lib.Count.{ones}
use lib.ListN.{length, length-append}
use borrow.Author.Tests.{lt-ltb, le-leb}
use Rattle.definitions.specs.Layout.{FIRST_OTHER, OTHER_CODES, MOST_PENDING}
use Rattle.definitions.specs.Errors as E
use Rattle.definitions.specs.Token.{one_of}
use Rattle.definitions.specs.Once.{pushed_once}
use Rattle.definitions.specs.Run.{pool_of}
use Rattle.basics.specs.WordSet.{put_in_word}
use Rattle.laws.specs.Once.{is_kind, is_other, is_expectation}
use Rattle.laws.proofs.Listed.{kinds_of, others_of, other_digit, kinds_append, others_append, OtherCode, other_code, Held, by_code, held_append, held_listed}
use Rattle.machine.specs.Machine.{Pending, arrived, expect_kind, expect_other, expect, pool_count}
use Rattle.machine.proofs.Image.{held_of}

-- there is room for one that is not there
arrives : (l : List ℕ) (k : ℕ) → Held (l ++ (k ∷ [])) → arrived k l ≡ l ++ (k ∷ [])
arrives l k h =
    let n : length (l ++ (k ∷ [])) ≡ length l + 1 = length-append l (k ∷ []) in
    ap (λ (b : Bool). cond b (l ++ (k ∷ [])) l) (lt-ltb (length l) MOST_PENDING (omega (arith, n, (held_listed (l ++ (k ∷ [])) h).few)))

-- the same list and the same words
same : (l l' : List ℕ) (x x' y y' : ℕ) → l ≡ l' → x ≡ x' → y ≡ y' → ◌≡◌ {A = Pending} (record { codes = l; kinds = x; others = y }) (record { codes = l'; kinds = x'; others = y' })
same l l' x x' y y' e f g = rw (e, f, g)

module _ (l : List ℕ) (k : ℕ) (h : Held l) (e : is_expectation k ≡ true) where
  -- it is there, or it is not
  pushed : (b : Bool) → one_of l k ≡ b → (x : Pending) → (one_of l k ≡ false → x ≡ held_of (l ++ (k ∷ []))) → cond b (held_of l) x ≡ held_of (cond b l (l ++ (k ∷ [])))
  pushed true f x p = refl
  pushed false f x p = p f

  kind_is : is_kind k ≡ true → expect_kind k (held_of l) ≡ held_of (pushed_once k l)
  unfolding pushed_once
  kind_is g =
      let x : Pending = record { codes = arrived k l; kinds = put_in_word k (kinds_of l); others = others_of l } in
      ap (λ (b : Bool). cond b (held_of l) x) (h.words.kind k g)
      ∙ pushed (one_of l k) refl x
      (λ f. same _ _ _ _ _ _ (arrives l k (held_append l k h e f))
      (sym (kinds_append 0 l k ∙ ap (λ (b : Bool). cond b (put_in_word k (kinds_of l)) (kinds_of l)) g))
      (sym (others_append 0 l k ∙ ap (λ (b : Bool). cond b (others_of l) (put_in_word (other_digit k) (others_of l))) g)))

  other_is : is_kind k ≡ false → is_other k ≡ true → expect_other k (held_of l) ≡ held_of (pushed_once k l)
  unfolding pushed_once
  other_is g o =
      let x : Pending = record { codes = arrived k l; kinds = kinds_of l; others = put_in_word (other_digit k) (others_of l) } in
      ap (λ (b : Bool). cond b (held_of l) x) (h.words.other k o)
      ∙ pushed (one_of l k) refl x
      (λ f. same _ _ _ _ _ _ (arrives l k (held_append l k h e f))
      (sym (kinds_append 0 l k ∙ ap (λ (b : Bool). cond b (put_in_word k (kinds_of l)) (kinds_of l)) g))
      (sym (others_append 0 l k ∙ ap (λ (b : Bool). cond b (others_of l) (put_in_word (other_digit k) (others_of l))) g)))

  pub expect_is : expect k (held_of l) ≡ held_of (pushed_once k l)
  unfolding expect is_kind
  expect_is =
      let x : Pending = held_of l in
      let other : Pending = cond (ltb k (FIRST_OTHER + OTHER_CODES)) (expect_other k x) x in
      let else : Pending = cond (leb FIRST_OTHER k) other x in
      by_code (expect k x ≡ held_of (pushed_once k l)) k e
      (λ g. ap (λ (b : Bool). cond b (expect_kind k x) else) g ∙ kind_is g)
      (λ g o.
      let c : OtherCode k = other_code k o in
      ap (λ (b : Bool). cond b (expect_kind k x) else) g
      ∙ ap (λ (b : Bool). cond b other x) (le-leb FIRST_OTHER k c.from)
      ∙ ap (λ (b : Bool). cond b (expect_other k x) x) (lt-ltb k (FIRST_OTHER + OTHER_CODES) c.to)
      ∙ other_is g o)

-- THE ROW'S COUNT is the number of different ones
pub count_is : (message : ℕ) (l : List ℕ) → Held l → pool_count message (held_of l) ≡ length (pool_of message l)
unfolding pool_count pool_of
count_is message l h = by_message (eqb message E.msg_expected)
  where
    by_message : (b : Bool) → cond b (ones (kinds_of l) + ones (others_of l)) 0 ≡ length (cond b l [])
    by_message true = h.words.count
    by_message false = refl
