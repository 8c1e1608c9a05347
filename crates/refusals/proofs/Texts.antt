-- What the check of cause 4 finds, in the words of the statement.
use Prim.Native.Nat.{ℕ, suc, ◌+◌}
use native.Mathlib.Omega.{arith}
use mathlib.Core.Path.{◌≡◌, refl, sym, ap, subst, ◌∙◌}
use mathlib.Core.Bool.{Bool, true, false, cond, not, ◌&&◌, false≢true}
use mathlib.Core.List.{List, [], ◌∷◌, ◌++◌}
use lib.Dec.{eqb}
use lib.ListN.{length, take, drop, length-append}
use lib.Seq.{drop-drop}
use borrow.Author.Tests.{eqb-false, not-true}
use Rattle.definitions.specs.Token.{Token, byte_count}
use Rattle.definitions.specs.StaticText.{Text, static_texts, same, fits_text}
use Rattle.definitions.specs.Refusal.{bad_text, Verdict, accepted, refused, check_texts}
use Rattle.basics.proofs.Tests.{and_left, and_right}
use Rattle.refusals.specs.First.{Each, First}
use Rattle.refusals.specs.Refusals.{RightText}
use Rattle.refusals.proofs.Firsts.{EachAfter, First-after, each_nil, each_cons, each_rest, first_here, first_later, from_nothing}
use Rattle.refusals.proofs.Tests.{Decides, holds, not_so, eqb_decides}
use Rattle.refusals.proofs.Rows.{bytes_more}
use Rattle.basics.proofs.Texts.{same_true, same_refl}

-- whether a kind is not in a table, and whether no kind of a table is in it twice
unfoldable absent : ℕ → List Text → Bool
absent k [] = true
absent k (x ∷ l) = not (eqb x.kind k) && absent k l

unfoldable once : List Text → Bool
unfolding absent
once [] = true
once (x ∷ l) = absent x.kind l && once l

static_once : once static_texts ≡ true
unfolding once
static_once = refl

same_decides : (xs ys : List ℕ) → Decides (ys ≡ xs) (same xs ys)
same_decides xs ys = by (same xs ys) refl
  where
    by : (t : Bool) → same xs ys ≡ t → Decides (ys ≡ xs) t
    by true e = holds (sym (same_true xs ys e))
    by false e = not_so (λ (h : ys ≡ xs). false≢true (sym e ∙ ap (same xs) h ∙ same_refl xs))

-- an entry of the table for this kind has these bytes
abbrev Says : ℕ → List ℕ → List Text → Text → Type 0
Says k ys above x = x.kind ≡ k → ys ≡ x.text

absent_says : (k : ℕ) (ys : List ℕ) (pre l : List Text) → absent k l ≡ true → EachAfter (Says k ys) pre l
unfolding absent
absent_says k ys pre [] e = each_nil (Says k ys) pre
absent_says k ys pre (x ∷ l) e =
    each_cons (Says k ys) pre x l (λ (h : x.kind ≡ k). absurd (eqb-false x.kind k (not-true _ (and_left (not (eqb x.kind k)) _ e)) h))
    (absent_says k ys (pre ++ (x ∷ [])) l (and_right (not (eqb x.kind k)) _ e))

text_decides : (k : ℕ) (ys : List ℕ) (pre l : List Text) → once l ≡ true → Decides (EachAfter (Says k ys) pre l) (fits_text l k ys)
unfolding fits_text once
text_decides k ys pre [] e = holds (each_nil (Says k ys) pre)
text_decides k ys pre (x ∷ l) e = by _ _ _ (eqb_decides x.kind k) (same_decides x.text ys) (text_decides k ys (pre ++ (x ∷ [])) l (and_right (absent x.kind l) _ e))
  where
    head : EachAfter (Says k ys) pre (x ∷ l) → x.kind ≡ k → ys ≡ x.text
    head g = g [] x l refl

    by : (s t u : Bool) → Decides (x.kind ≡ k) s → Decides (ys ≡ x.text) t → Decides (EachAfter (Says k ys) (pre ++ (x ∷ [])) l) u
        → Decides (EachAfter (Says k ys) pre (x ∷ l)) (cond s t u)
    by s t u (holds a) (holds c) d =
        holds (each_cons (Says k ys) pre x l (λ h. c) (absent_says k ys (pre ++ (x ∷ [])) l (subst (λ (n : ℕ). absent n l ≡ true) a (and_left (absent x.kind l) _ e))))
    by s t u (holds a) (not_so c) d = not_so (λ g. c (head g a))
    by s t u (not_so a) c (holds d) = holds (each_cons (Says k ys) pre x l (λ h. absurd (a h)) d)
    by s t u (not_so a) c (not_so d) = not_so (λ g. d (each_rest (Says k ys) pre x l g))

data TextsAfter (bytes : List ℕ) (pre ts : List Token) : Verdict → Type 0 where
  right : EachAfter (RightText bytes) pre ts → TextsAfter bytes pre ts accepted
  wrong : (before : List Token) (t : Token) (i : ℕ) → First-after (RightText bytes) pre ts before t → i ≡ length pre + length before → TextsAfter bytes pre ts (refused (bad_text i))

text_later : (bytes : List ℕ) (pre : List Token) (x : Token) (ts : List Token) (v : Verdict) → RightText bytes pre x → TextsAfter bytes (pre ++ (x ∷ [])) ts v → TextsAfter bytes pre (x ∷ ts) v
text_later bytes pre x ts v h (right g) = right (each_cons (RightText bytes) pre x ts h g)
text_later bytes pre x ts v h (wrong before t i f e) =
    let l : length (pre ++ (x ∷ [])) ≡ length pre + 1 = length-append pre (x ∷ []) in
    wrong (x ∷ before) t i (first_later (RightText bytes) pre x ts before t h f) (omega (arith, e, l))

one_text : (bytes : List ℕ) (pre : List Token) (i : ℕ) (x : Token) (ts : List Token) (t : Bool) (v : Verdict) → i ≡ length pre → Decides (RightText bytes pre x) t
    → TextsAfter bytes (pre ++ (x ∷ [])) ts v → TextsAfter bytes pre (x ∷ ts) (cond t v (refused (bad_text i)))
one_text bytes pre i x ts t v p (holds h) j = text_later bytes pre x ts v h j
one_text bytes pre i x ts t v p (not_so h) j = wrong [] x i (first_here (RightText bytes) pre x ts h) (omega (arith, p))

texts_walk : (bytes : List ℕ) (pre : List Token) (i : ℕ) (rest : List ℕ) (ts : List Token) → i ≡ length pre → drop (byte_count pre) bytes ≡ rest → TextsAfter bytes pre ts (check_texts i rest ts)
unfolding check_texts
texts_walk bytes pre i rest [] p e = right (each_nil (RightText bytes) pre)
texts_walk bytes pre i rest (x ∷ ts) p e =
    let l : length (pre ++ (x ∷ [])) ≡ length pre + 1 = length-append pre (x ∷ []) in
    one_text bytes pre i x ts (fits_text static_texts x.kind (take x.len rest)) (check_texts (suc i) (drop x.len rest) ts) p
    (subst (λ (r : List ℕ). Decides (RightText bytes pre x) (fits_text static_texts x.kind (take x.len r))) e (text_decides x.kind (take x.len (drop (byte_count pre) bytes)) [] static_texts static_once))
    (texts_walk bytes (pre ++ (x ∷ [])) (suc i) (drop x.len rest) ts (omega (arith, p, l))
    (ap (λ (n : ℕ). drop n bytes) (bytes_more pre x) ∙ sym (drop-drop x.len (byte_count pre) bytes) ∙ ap (drop x.len) e))

-- CAUSE 4
pub data Texts (bytes : List ℕ) (ts : List Token) : Verdict → Type 0 where
  right_texts : Each (RightText bytes) ts → Texts bytes ts accepted
  wrong_one : (before : List Token) (t : Token) → First (RightText bytes) ts before t → Texts bytes ts (refused (bad_text (length before)))

pub judged_texts : (bytes : List ℕ) (ts : List Token) → Texts bytes ts (check_texts 0 bytes ts)
unfolding byte_count
judged_texts bytes ts = by _ (texts_walk bytes [] 0 bytes ts refl refl)
  where
    by : (v : Verdict) → TextsAfter bytes [] ts v → Texts bytes ts v
    by v (right g) = right_texts g
    by v (wrong before t i f e) = subst (λ (n : ℕ). Texts bytes ts (refused (bad_text n))) (omega (arith, e)) (wrong_one before t (from_nothing (RightText bytes) ts before t f))
