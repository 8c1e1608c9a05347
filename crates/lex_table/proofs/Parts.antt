-- The parts of the table: where each stands, and the bounds that a look-up needs.
use Prim.Native.Nat.{ℕ, ◌+◌, ◌*◌, ◌≤◌, ◌<◌}
use native.Mathlib.Omega.{arith}
use mathlib.Core.Path.{◌≡◌, refl, ◌∙◌}
use mathlib.Core.Bool.{Bool, true, ◌&&◌}
use mathlib.Core.List.{List, ◌++◌}
use lib.Dec.{ltb}
use lib.ListN.{get_or, length, length-map, get_or-append, get_or-map}
use lib.Seq.{get_or-append-add}
use borrow.Author.Tests.{ltb-true}
use Rattle.basics.proofs.Tests.{and_left, and_right}
use Rattle.lex_table.specs.States.{long_rows, classes, short_rows, kinds}
use Rattle.lex_table.specs.Table.{rows_of, table}
use Rattle.lex_table.proofs.Every.{every, at_each}

-- ---------------------------------------------------------------- lengths

long_length : length long_rows ≡ 5376
unfolding long_rows
long_length = refl

pub classes_length : length classes ≡ 256
unfolding classes
classes_length = refl

short_length : length short_rows ≡ 2325
unfolding short_rows
short_length = refl

rows_length : (l : List ℕ) → length (rows_of l) ≡ length l
unfolding rows_of
rows_length l = length-map l (λ (i : ℕ). i * 256)

-- ---------------------------------------------------------------- one behind the other

-- behind n entries
behind : (a b : List ℕ) (n i j : ℕ) → length a ≡ n → j ≡ n + i → get_or (a ++ b) j 0 ≡ get_or b i 0
behind a b n i j e f = rw (f, ← e) (get_or-append-add a b i 0)

row_at : (l : List ℕ) (i : ℕ) → get_or (rows_of l) i 0 ≡ get_or l i 0 * 256
unfolding rows_of
row_at l i = get_or-map (λ (i : ℕ). i * 256) l i 0

pub table_long : (i : ℕ) → i < 5376 → get_or table i 0 ≡ get_or long_rows i 0 * 256
unfolding table
table_long i h =
    get_or-append (rows_of long_rows) (classes ++ (rows_of short_rows ++ kinds)) 0 i (rw (rows_length long_rows, long_length) h)
    ∙ row_at long_rows i

after_long : (i j : ℕ) → j ≡ 5376 + i → get_or table j 0 ≡ get_or (classes ++ (rows_of short_rows ++ kinds)) i 0
unfolding table
after_long i j e =
    behind (rows_of long_rows) (classes ++ (rows_of short_rows ++ kinds)) 5376 i j (rows_length long_rows ∙ long_length) e

pub table_class : (b j : ℕ) → b < 256 → j ≡ 5376 + b → get_or table j 0 ≡ get_or classes b 0
table_class b j h e = after_long b j e ∙ get_or-append classes (rows_of short_rows ++ kinds) 0 b (rw classes_length h)

pub table_short : (i j : ℕ) → i < 2325 → j ≡ 5632 + i → get_or table j 0 ≡ get_or short_rows i 0 * 256
table_short i j h e =
    after_long (256 + i) j (omega (arith, e))
    ∙ behind classes (rows_of short_rows ++ kinds) 256 i (256 + i) classes_length refl
    ∙ get_or-append (rows_of short_rows) kinds 0 i (rw (rows_length short_rows, short_length) h)
    ∙ row_at short_rows i

pub table_kind : (i j : ℕ) → j ≡ 7957 + i → get_or table j 0 ≡ get_or kinds i 0
table_kind i j e =
    after_long (2581 + i) j (omega (arith, e))
    ∙ behind classes (rows_of short_rows ++ kinds) 256 (2325 + i) (2581 + i) classes_length (omega arith)
    ∙ behind (rows_of short_rows) kinds 2325 i (2325 + i) (rows_length short_rows ∙ short_length) refl

-- ---------------------------------------------------------------- bounds

unfoldable below : ℕ → ℕ → ℕ → Bool
below n k x = ltb x n

-- a state that a byte can lead to: not the start
unfoldable reached : ℕ → ℕ → Bool
reached k x = ltb 0 x && ltb x 133

classes_right : every (below 31) 0 classes ≡ true
unfolding every below classes
classes_right = refl

long_right : every reached 0 long_rows ≡ true
unfolding every reached long_rows
long_right = refl

short_right : every reached 0 short_rows ≡ true
unfolding every reached short_rows
short_right = refl

pub class_below : (b : ℕ) → b < 256 → get_or classes b 0 < 31
unfolding below
class_below b h = ltb-true _ _ (at_each (below 31) classes 0 classes_right b (rw classes_length h))

reached_true : (k x : ℕ) → reached k x ≡ true → (1 ≤ x) × (x < 133)
unfolding reached
reached_true k x h = (ltb-true 0 x (and_left _ (ltb x 133) h), ltb-true x 133 (and_right (ltb 0 x) _ h))

pub long_reached : (i : ℕ) → i < 5376 → (1 ≤ get_or long_rows i 0) × (get_or long_rows i 0 < 133)
long_reached i h = reached_true i _ (at_each reached long_rows 0 long_right i (rw long_length h))

pub short_reached : (i : ℕ) → i < 2325 → (1 ≤ get_or short_rows i 0) × (get_or short_rows i 0 < 133)
short_reached i h = reached_true i _ (at_each reached short_rows 0 short_right i (rw short_length h))
