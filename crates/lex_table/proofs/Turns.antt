-- The law as the loops of the lexer hold it: a state by its row in the table, bytes by their place in the whole text.
use Prim.Native.Nat.{ℕ, suc, ◌+◌, ◌-◌, ◌*◌, ◌/◌, ◌≤◌, ◌<◌}
use native.Mathlib.Omega.{arith}
use mathlib.Core.Path.{◌≡◌, refl, sym, ◌∙◌, ap}
use mathlib.Core.Bool.{Bool, true, false, cond}
use mathlib.Core.List.{List}
use lib.Dec.{ltb}
use lib.ListN.{get_or, length, drop, drop_of_length-le}
use lib.Seq.{drop-cons}
use borrow.Author.Tests.{ltb-true, ltb-false, lt-ltb, le-ltb, le-leb, lt-leb}
use Rattle.definitions.specs.Rules.{Rule}
use Rattle.definitions.specs.Lex.{Match, no_match, longest}
use Rattle.lexing.specs.Scan.{scan}
use Rattle.lexing.proofs.Scan.{scans}
use Rattle.lex_table.specs.States.{long_rows, classes, short_rows}
use Rattle.lex_table.specs.Table.{table, row_after}
use Rattle.lex_table.specs.Matches.{match_of}
use Rattle.lex_table.proofs.Parts.{table_long, table_class, table_short, class_below}
use Rattle.lex_table.proofs.States.{st, accepting}
use Rattle.lex_table.proofs.Entries.{next_state, next_reached}
use Rattle.lex_table.proofs.Law.{starts, ends_here, stepped}

-- ---------------------------------------------------------------- rows

row_next : (i b : ℕ) → i < 96 → b < 256 → row_after (i * 256) b ≡ next_state i b * 256
unfolding row_after next_state
row_next i b h k = go (ltb i 21) refl
  where
    c : ℕ
    c = get_or classes b 0

    go : (t : Bool) → ltb i 21 ≡ t
        → cond (ltb (i * 256) 5376) (get_or table (i * 256 + b) 0) (get_or table (i * 256 / 256 * 31 + get_or table (b + 5376) 0 + 4981) 0)
        ≡ cond t (get_or long_rows (i * 256 + b) 0) (get_or short_rows ((i - 21) * 31 + c) 0) * 256
    go true e =
        let f = ltb-true i 21 e in
        let g : ltb (i * 256) 5376 ≡ true = lt-ltb (i * 256) 5376 (omega (arith, f)) in
        rw g (table_long (i * 256 + b) (omega (arith, f, k)))
    go false e =
        let f = ltb-false i 21 e in
        let g : ltb (i * 256) 5376 ≡ false = le-ltb (i * 256) 5376 (omega (arith, f)) in
        let d : i * 256 / 256 ≡ i = omega arith in
        let x : get_or table (b + 5376) 0 ≡ c = table_class b (b + 5376) k (omega arith) in
        let y = class_below b k in
        rw (g, d, x) (table_short ((i - 21) * 31 + c) (i * 31 + c + 4981) (omega (arith, f, h, y)) (omega (arith, f)))

-- ---------------------------------------------------------------- what a loop knows

-- the longest match from byte `at` on: the row of its state, 0 for none, and the byte after it
pub record Found (bytes : List ℕ) (at row end : ℕ) : Type 0 where
  pub state : ℕ
  pub len : ℕ
  pub held : row ≡ state * 256
  pub ends : end ≡ at + len
  pub it : match_of state len ≡ longest (length (drop at bytes)) (drop at bytes)
  pub known : state < 132

-- after the bytes from `at` up to n, in the state of a row, with the longest match so far
pub record Scanned (bytes : List ℕ) (at n row best end : ℕ) : Type 0 where
  pub state : ℕ
  pub read : ℕ
  pub held : row ≡ state * 256
  pub reads : n ≡ at + read
  pub goes_on : state < 96
  pub best_state : ℕ
  pub best_len : ℕ
  pub best_held : best ≡ best_state * 256
  pub best_ends : end ≡ at + best_len
  pub best_known : best_state < 132
  pub left : scan (st state) read (match_of best_state best_len) (drop n bytes) ≡ longest (length (drop at bytes)) (drop at bytes)

pub scanned_none : (bytes : List ℕ) (at : ℕ) → Scanned bytes at at 0 0 at
unfolding match_of
scanned_none bytes at =
    record {
      state = 0;
      read = 0;
      held = refl;
      reads = omega arith;
      goes_on = omega arith;
      best_state = 0;
      best_len = 0;
      best_held = refl;
      best_ends = omega arith;
      best_known = omega arith;
      left = ap (λ (l : List Rule). scan l 0 no_match (drop at bytes)) starts ∙ scans (drop at bytes);
    }

pub scanned_all : (bytes : List ℕ) (at n row best end : ℕ) → Scanned bytes at n row best end → length bytes ≤ n → Found bytes at best end
unfolding scan
scanned_all bytes at n row best end s h =
    record {
      state = s.best_state;
      len = s.best_len;
      held = s.best_held;
      ends = s.best_ends;
      it = ap (scan (st s.state) s.read (match_of s.best_state s.best_len)) (sym (drop_of_length-le bytes h)) ∙ s.left;
      known = s.best_known;
    }

pub row_below : (bytes : List ℕ) (at n row best end : ℕ) → Scanned bytes at n row best end → row < 24576
row_below bytes at n row best end s = omega (arith, s.held, s.goes_on)

-- ---------------------------------------------------------------- a turn

module _ (bytes : List ℕ) (at n row best end next : ℕ) (s : Scanned bytes at n row best end) (h : n < length bytes)
    (f : get_or bytes n 0 < 256) (e : next ≡ row_after row (get_or bytes n 0)) where
  j : ℕ
  j = next_state s.state (get_or bytes n 0)

  m : Match
  m = match_of s.best_state s.best_len

  next_held : next ≡ j * 256
  unfolding j
  next_held = e ∙ ap (λ (r : ℕ). row_after r (get_or bytes n 0)) s.held ∙ row_next s.state (get_or bytes n 0) s.goes_on f

  reached : (1 ≤ j) × (j < 133)
  unfolding j
  reached = next_reached s.state (get_or bytes n 0) s.goes_on f

  turned : scan (st j) (suc s.read) (cond (accepting j) (match_of j (suc s.read)) m) (drop (suc n) bytes)
      ≡ longest (length (drop at bytes)) (drop at bytes)
  unfolding j m
  turned =
      sym (stepped s.state (get_or bytes n 0) s.read m (drop (suc n) bytes) s.goes_on f)
      ∙ ap (scan (st s.state) s.read m) (sym (drop-cons bytes n 0 h)) ∙ s.left

  -- where the state matches, and where it does not
  turned_by : (t : Bool) → accepting j ≡ t
      → scan (st j) (suc s.read) (cond t (match_of j (suc s.read)) m) (drop (suc n) bytes)
      ≡ longest (length (drop at bytes)) (drop at bytes)
  turned_by t g = ap (λ (x : Bool). scan (st j) (suc s.read) (cond x (match_of j (suc s.read)) m) (drop (suc n) bytes)) (sym g) ∙ turned

  pub turn_dead : next ≡ 33792 → Found bytes at best end
  unfolding m
  turn_dead d =
      let k : j ≡ 132 = omega (arith, d, next_held) in
      let g : accepting j ≡ false = rw k in
      record {
        state = s.best_state;
        len = s.best_len;
        held = s.best_held;
        ends = s.best_ends;
        it = sym (ends_here j (suc s.read) m (drop (suc n) bytes) (omega (arith, k)) reached.1) ∙ turned_by false g;
        known = s.best_known;
      }

  pub turn_final : 24576 ≤ next → (next ≡ 33792 → ⊥) → Found bytes at next (n + 1)
  turn_final d x =
      let k : 96 ≤ j = omega (arith, d, next_held) in
      let l : j < 132 = omega (arith, x, next_held, reached.1) in
      let g : accepting j ≡ true = rw (le-ltb j 21 (omega (arith, k)), le-leb 96 j k, lt-ltb j 132 l) in
      record {
        state = j;
        len = suc s.read;
        held = next_held;
        ends = omega (arith, s.reads);
        it = sym (ends_here j (suc s.read) _ (drop (suc n) bytes) k reached.1) ∙ turned_by true g;
        known = l;
      }

  pub turn_match : next < 5376 → Scanned bytes at (n + 1) next next (n + 1)
  turn_match d =
      let k : j < 21 = omega (arith, d, next_held) in
      let g : accepting j ≡ true = rw (lt-ltb j 21 k, lt-ltb 0 j reached.0) in
      let p : suc n ≡ n + 1 = omega arith in
      record {
        state = j;
        read = suc s.read;
        held = next_held;
        reads = omega (arith, s.reads);
        goes_on = omega (arith, k);
        best_state = j;
        best_len = suc s.read;
        best_held = next_held;
        best_ends = omega (arith, s.reads);
        best_known = omega (arith, k);
        left = ap (λ (x : ℕ). scan (st j) (suc s.read) (match_of j (suc s.read)) (drop x bytes)) (sym p) ∙ turned_by true g;
      }

  pub turn_on : 5376 ≤ next → next < 24576 → Scanned bytes at (n + 1) next best end
  unfolding m
  turn_on d x =
      let k : 21 ≤ j = omega (arith, d, next_held) in
      let l : j < 96 = omega (arith, x, next_held) in
      let g : accepting j ≡ false = rw (le-ltb j 21 k, lt-leb 96 j l) in
      let p : suc n ≡ n + 1 = omega arith in
      record {
        state = j;
        read = suc s.read;
        held = next_held;
        reads = omega (arith, s.reads);
        goes_on = l;
        best_state = s.best_state;
        best_len = s.best_len;
        best_held = s.best_held;
        best_ends = s.best_ends;
        best_known = s.best_known;
        left = ap (λ (x : ℕ). scan (st j) (suc s.read) m (drop x bytes)) (sym p) ∙ turned_by false g;
      }
