-- What the checks of causes 2, 3 and 11 to 13 find, in the words of the statement.
use Prim.Native.Nat.{ℕ, suc, ◌+◌, ◌%◌, ◌≤◌, ◌<◌}
use native.Mathlib.Omega.{arith}
use mathlib.Core.Path.{◌≡◌, refl, sym, ◌∙◌, subst, subst₂}
use mathlib.Core.Bool.{Bool, ◌&&◌, ◌||◌}
use mathlib.Core.List.{List, [], ◌∷◌, ◌++◌, append-nil, append_assoc}
use lib.Dec.{leb, eqb}
use lib.ListN.{length, length-append}
use Rattle.definitions.specs.Layout.{TOKEN_ROW, MOST_TOKEN_NUMBERS, MOST_BYTES}
use Rattle.definitions.specs.LexError as L
use Rattle.definitions.specs.TokenKind as K
use Rattle.definitions.specs.Token.{Token, byte_count}
use Rattle.definitions.specs.Refusal.{Refusal, bad_kind, zero_length, past_input, short_total, Verdict, accepted, refused, unless, ◌or_else◌}
use Rattle.definitions.specs.RowCauses.{is_kind, check_row, check_rows}
use Rattle.basics.proofs.TokenRows.{tokens_length}
use Rattle.refusals.specs.First.{Each, First}
use Rattle.refusals.specs.Refusals.{MAX_BYTES, MAX_NUMBERS, Sizes, WholeRows, InputKind, a_token, a_lexical_error, GoodRow}
use Rattle.refusals.proofs.Firsts.{EachAfter, First-after, each_nil, each_cons, first_here, first_later, from_nothing}
use Rattle.refusals.proofs.Tests.{Decides, holds, not_so, both, leb_decides, eqb_decides, not_decides}

kind_decides : (k : ℕ) → Decides (InputKind k) (is_kind k)
unfolding is_kind
kind_decides k =
    by _ _
    (both _ _ (both _ _ (leb_decides k K.QuestionMark) (not_decides _ (eqb_decides k K.Unrecognized))) (not_decides _ (eqb_decides k K.Name)))
    (both _ _ (leb_decides L.UnexpectedEndIncbin k) (leb_decides k L.Default))
  where
    by : (s t : Bool) → Decides (((k ≤ K.QuestionMark) × ¬ (k ≡ K.Unrecognized)) × ¬ (k ≡ K.Name)) s → Decides ((L.UnexpectedEndIncbin ≤ k) × (k ≤ L.Default)) t → Decides (InputKind k) (s || t)
    by s t (holds a) d = holds (a_token a.0.0 a.0.1 a.1)
    by s t (not_so a) (holds b) = holds (a_lexical_error b.0 b.1)
    by s t (not_so a) (not_so b) = not_so neither
      where
        neither : ¬ InputKind k
        neither (a_token x y z) = a ((x, y), z)
        neither (a_lexical_error x y) = b (x, y)

-- ---------------------------------------------------------------- cause 2

pub sizes_decides : (bytes tokens : List ℕ) → Decides (Sizes bytes tokens) (leb (length bytes) MOST_BYTES && leb (length tokens) MOST_TOKEN_NUMBERS)
sizes_decides bytes tokens = both _ _ (leb_decides (length bytes) MAX_BYTES) (leb_decides (length tokens) MAX_NUMBERS)

-- ---------------------------------------------------------------- cause 3

pub whole_decides : (tokens : List ℕ) → Decides (WholeRows tokens) (eqb (length tokens % TOKEN_ROW) 0)
whole_decides tokens = by _ (eqb_decides (length tokens % TOKEN_ROW) 0)
  where
    by : (t : Bool) → Decides (length tokens % TOKEN_ROW ≡ 0) t → Decides (WholeRows tokens) t
    by t (holds h) = holds (omega (arith, h, tokens_length tokens))
    by t (not_so h) = not_so (λ w. h (omega (arith, w)))

-- ---------------------------------------------------------------- causes 11 to 13 of one row

-- what is wrong with a row after others
pub data Wrong (bytes : List ℕ) (before : List Token) (t : Token) : Refusal → Type 0 where
  its_kind : ¬ InputKind t.kind → Wrong bytes before t (bad_kind (length before))
  its_length : InputKind t.kind → t.len ≡ 0 → Wrong bytes before t (zero_length (length before))
  its_end : InputKind t.kind → 1 ≤ t.len → length bytes < byte_count before + t.len → Wrong bytes before t (past_input (length before))

-- there is no more than one such thing
pub only_wrong : (bytes : List ℕ) (before : List Token) (t : Token) (r r' : Refusal) → Wrong bytes before t r → Wrong bytes before t r' → r ≡ r'
only_wrong bytes before t r r' (its_kind h) (its_kind g) = refl
only_wrong bytes before t r r' (its_kind h) (its_length k z) = absurd (h k)
only_wrong bytes before t r r' (its_kind h) (its_end k o e) = absurd (h k)
only_wrong bytes before t r r' (its_length k z) (its_kind g) = absurd (g k)
only_wrong bytes before t r r' (its_length k z) (its_length k' z') = refl
only_wrong bytes before t r r' (its_length k z) (its_end k' o e) = absurd (omega (arith, z, o))
only_wrong bytes before t r r' (its_end k o e) (its_kind g) = absurd (g k)
only_wrong bytes before t r r' (its_end k o e) (its_length k' z) = absurd (omega (arith, z, o))
only_wrong bytes before t r r' (its_end k o e) (its_end k' o' e') = refl

data One (bytes : List ℕ) (before : List Token) (t : Token) : Verdict → Type 0 where
  right : GoodRow bytes before t → One bytes before t accepted
  wrong : (r : Refusal) → ¬ GoodRow bytes before t → Wrong bytes before t r → One bytes before t (refused r)

one_row : (bytes : List ℕ) (before : List Token) (t : Token) → One bytes before t (check_row (length before) (byte_count before) (length bytes) t)
unfolding check_row ◌or_else◌
one_row bytes before t = by _ _ _ (kind_decides t.kind) (leb_decides 1 t.len) (leb_decides (byte_count before + t.len) (length bytes))
  where
    by : (x y z : Bool) → Decides (InputKind t.kind) x → Decides (1 ≤ t.len) y → Decides (byte_count before + t.len ≤ length bytes) z
        → One bytes before t (unless x (bad_kind (length before)) or_else unless y (zero_length (length before)) or_else unless z (past_input (length before)))
    by x y z (not_so k) e f = wrong (bad_kind (length before)) (λ g. k g.kind) (its_kind k)
    by x y z (holds k) (not_so e) f = wrong (zero_length (length before)) (λ g. e g.not_empty) (its_length k (omega (arith, e)))
    by x y z (holds k) (holds e) (not_so f) = wrong (past_input (length before)) (λ g. f g.ends_inside) (its_end k e (omega (arith, f)))
    by x y z (holds k) (holds e) (holds f) = right (record { kind = k; not_empty = e; ends_inside = f })

-- ---------------------------------------------------------------- of all rows

pub bytes_more : (pre : List Token) (t : Token) → byte_count (pre ++ (t ∷ [])) ≡ byte_count pre + t.len
unfolding byte_count
bytes_more [] t = omega arith
bytes_more (x ∷ pre) t = let h : byte_count (pre ++ (t ∷ [])) ≡ byte_count pre + t.len = bytes_more pre t in omega arith

-- the rows after others
data Judged (bytes : List ℕ) (pre ts : List Token) : Verdict → Type 0 where
  good : EachAfter (GoodRow bytes) pre ts → byte_count pre + byte_count ts ≡ length bytes → Judged bytes pre ts accepted
  bad : (before : List Token) (t : Token) (r : Refusal) → First-after (GoodRow bytes) pre ts before t → Wrong bytes (pre ++ before) t r → Judged bytes pre ts (refused r)
  short : EachAfter (GoodRow bytes) pre ts → byte_count pre + byte_count ts < length bytes → (i : ℕ) → i ≡ length pre + length ts → Judged bytes pre ts (refused (short_total i))

rows_end : (bytes : List ℕ) (pre : List Token) (t : Bool) → byte_count pre ≤ length bytes → Decides (byte_count pre ≡ length bytes) t → Judged bytes pre [] (unless t (short_total (length pre)))
unfolding byte_count
rows_end bytes pre t p (holds z) = good (each_nil (GoodRow bytes) pre) (omega (arith, z))
rows_end bytes pre t p (not_so h) = short (each_nil (GoodRow bytes) pre) (omega (arith, p, h)) (length pre) (omega arith)

row_later : (bytes : List ℕ) (pre : List Token) (x : Token) (ts : List Token) (v : Verdict) → GoodRow bytes pre x
    → Judged bytes (pre ++ (x ∷ [])) ts v → Judged bytes pre (x ∷ ts) v
unfolding byte_count
row_later bytes pre x ts v h (good g c) = good (each_cons (GoodRow bytes) pre x ts h g) (omega (arith, c, bytes_more pre x))
row_later bytes pre x ts v h (bad before t r f w) =
    bad (x ∷ before) t r (first_later (GoodRow bytes) pre x ts before t h f) (subst (λ (l : List Token). Wrong bytes l t r) (append_assoc pre (x ∷ []) before) w)
row_later bytes pre x ts v h (short g c i e) =
    short (each_cons (GoodRow bytes) pre x ts h g) (omega (arith, c, bytes_more pre x)) i (omega (arith, e, length-append pre (x ∷ [])))

after_row : (bytes : List ℕ) (pre : List Token) (x : Token) (ts : List Token) (v w : Verdict) → One bytes pre x v
    → (GoodRow bytes pre x → Judged bytes (pre ++ (x ∷ [])) ts w) → Judged bytes pre (x ∷ ts) (v or_else w)
unfolding ◌or_else◌
after_row bytes pre x ts v w (right h) j = row_later bytes pre x ts w h (j h)
after_row bytes pre x ts v w (wrong r h d) j = bad [] x r (first_here (GoodRow bytes) pre x ts h) (subst (λ (l : List Token). Wrong bytes l x r) (sym (append-nil pre)) d)

rows_walk : (bytes : List ℕ) (pre ts : List Token) → byte_count pre ≤ length bytes → Judged bytes pre ts (check_rows (length pre) (byte_count pre) (length bytes) ts)
unfolding check_rows
rows_walk bytes pre [] p = rows_end bytes pre _ p (eqb_decides (byte_count pre) (length bytes))
rows_walk bytes pre (x ∷ ts) p =
    after_row bytes pre x ts _ _ (one_row bytes pre x)
    (λ (h : GoodRow bytes pre x).
    let l : length (pre ++ (x ∷ [])) ≡ suc (length pre) = length-append pre (x ∷ []) ∙ omega arith in
    subst₂ (λ (i start : ℕ). Judged bytes (pre ++ (x ∷ [])) ts (check_rows i start (length bytes) ts)) l (bytes_more pre x)
    (rows_walk bytes (pre ++ (x ∷ [])) ts (omega (arith, bytes_more pre x, h.ends_inside))))

-- CAUSES 11 TO 13
pub data Rows (bytes : List ℕ) (ts : List Token) : Verdict → Type 0 where
  good_rows : Each (GoodRow bytes) ts → byte_count ts ≡ length bytes → Rows bytes ts accepted
  bad_one : (before : List Token) (t : Token) (r : Refusal) → First (GoodRow bytes) ts before t → Wrong bytes before t r → Rows bytes ts (refused r)
  too_short : Each (GoodRow bytes) ts → byte_count ts < length bytes → Rows bytes ts (refused (short_total (length ts)))

pub judged_rows : (bytes : List ℕ) (ts : List Token) → Rows bytes ts (check_rows 0 0 (length bytes) ts)
unfolding byte_count
judged_rows bytes ts = by _ (rows_walk bytes [] ts (omega arith))
  where
    by : (v : Verdict) → Judged bytes [] ts v → Rows bytes ts v
    by v (good g c) = good_rows g (omega (arith, c))
    by v (bad before t r f w) = bad_one before t r (from_nothing (GoodRow bytes) ts before t f) w
    by v (short g c i e) = subst (λ (n : ℕ). Rows bytes ts (refused (short_total n))) (omega (arith, e)) (too_short g (omega (arith, c)))
