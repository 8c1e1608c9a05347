-- The Names that a setting reports: how many there are, where they stand, and the numbers of their report rows.
use Prim.Native.Nat.{ℕ, zero, suc, ◌+◌, ◌-◌, ◌≤◌, ◌<◌}
use native.Mathlib.Omega.{arith}
use mathlib.Core.Path.{◌≡◌}
use mathlib.Core.Bool.{Bool, false, ◌&&◌}
use mathlib.Core.List.{List, [], ◌∷◌, ◌++◌}
use lib.Dec.{eqb}
use lib.ListN.{length, length-append, take, drop}
use Rattle.definitions.specs.Layout.{OLD_SETTING}
use Rattle.definitions.specs.TokenKind as K
use Rattle.definitions.specs.Token.{Token, byte_count}
use Rattle.definitions.specs.Grammar.{Entry}
use Rattle.definitions.specs.Place.{Tree, nil, leaf, subtree, width}
use Rattle.definitions.specs.Strict.{NameAt, keeps_rule, judges, token_count, judged, breaking, reported_names, name_numbers, names_fit}
use Rattle.definitions.specs.Refusal.{place_of}
use Rattle.definitions.specs.Call.{names_of}
use Rattle.basics.proofs.Tests.{cond-all}
use Rattle.laws.proofs.Tree.{width_leaves, tokens_leaves}
use Rattle.laws.proofs.Leaves.{Right}
use Rattle.laws.proofs.Lossless.{lossless}
use Rattle.bounds.specs.Numbers.{NamesWithin, Below}
use Rattle.bounds.proofs.Codes.{CODES}
use Rattle.bounds.proofs.TreeRows.{some_token, tree, tree_right}
use Rattle.bounds.proofs.Places.{Placed}

-- ---------------------------------------------------------------- those of a tree

-- at most one for each token, since no leaf is without one
judged_few : (under : Bool) (at byte : ℕ) (t : Tree) → Right t → length (judged under at byte t) ≤ token_count t
unfolding Right judged token_count
judged_few under at byte nil r = omega arith
judged_few under at byte (leaf k raw f) r =
    let more : List NameAt = judged under (at + length raw) (byte + byte_count raw) f in
    let h : length more ≤ token_count f = judged_few under (at + length raw) (byte + byte_count raw) f r.1 in
    cond-all (λ (l : List NameAt). length l ≤ length raw + token_count f) (under && eqb k K.Name)
    {x = record { first_token = at; start = byte; end = byte + byte_count raw } ∷ more} {y = more}
    (omega (arith, some_token k raw r.0)) (omega arith)
judged_few under at byte (subtree k c f) r =
    simp length-append (omega (arith, judged_few (judges k c) at byte c r.0, judged_few under (at + token_count c) (byte + width c) f r.1))

-- n tokens and b bytes: those of the file
module _ (n b : ℕ) where
  within_append : (l m : List NameAt) → NamesWithin n b l → NamesWithin n b m → NamesWithin n b (l ++ m)
  within_append [] m h g = g
  within_append (x ∷ l) m h g = (h.0, h.1, h.2, within_append l m h.3 g)

  judged_within : (under : Bool) (at byte : ℕ) (t : Tree) → Right t → at + token_count t ≤ n → byte + width t ≤ b → NamesWithin n b (judged under at byte t)
  unfolding Right judged token_count width
  judged_within under at byte nil r h g = tt
  judged_within under at byte (leaf k raw f) r h g =
      let more : NamesWithin n b (judged under (at + length raw) (byte + byte_count raw) f) = judged_within under (at + length raw) (byte + byte_count raw) f r.1 (omega arith) (omega arith) in
      cond-all (NamesWithin n b) (under && eqb k K.Name)
      {x = record { first_token = at; start = byte; end = byte + byte_count raw } ∷ judged under (at + length raw) (byte + byte_count raw) f} {y = judged under (at + length raw) (byte + byte_count raw) f}
      (omega (arith, some_token k raw r.0), omega arith, omega arith, more) more
  judged_within under at byte (subtree k c f) r h g =
      within_append (judged (judges k c) at byte c) _ (judged_within (judges k c) at byte c r.0 (omega arith) (omega arith))
      (judged_within under (at + token_count c) (byte + width c) f r.1 (omega arith) (omega arith))

  breaking_within : (bytes : List ℕ) (l : List NameAt) → NamesWithin n b l → NamesWithin n b (breaking bytes l)
  unfolding breaking
  breaking_within bytes [] h = tt
  breaking_within bytes (x ∷ l) h =
      let more : NamesWithin n b (breaking bytes l) = breaking_within bytes l h.3 in
      cond-all (NamesWithin n b) (keeps_rule (take (x.end - x.start) (drop x.start bytes))) {x = breaking bytes l} {y = x ∷ breaking bytes l} more (h.0, h.1, h.2, more)

breaking_few : (bytes : List ℕ) (l : List NameAt) → length (breaking bytes l) ≤ length l
unfolding breaking
breaking_few bytes [] = omega arith
breaking_few bytes (x ∷ l) =
    let h : length (breaking bytes l) ≤ length l = breaking_few bytes l in
    cond-all (λ (m : List NameAt). length m ≤ suc (length l)) (keeps_rule (take (x.end - x.start) (drop x.start bytes))) {x = breaking bytes l} {y = x ∷ breaking bytes l} (omega arith) (omega arith)

-- ---------------------------------------------------------------- those of a run

module _ (setting : ℕ) (e : Entry) (bytes : List ℕ) (ts : List Token) where
  tree_tokens : token_count (tree e ts) ≡ length ts
  tree_tokens = rw (tokens_leaves, lossless)

  tree_width : width (tree e ts) ≡ byte_count ts
  tree_width = rw (width_leaves, lossless)

  -- HOW MANY NAMES
  pub few_names : length (names_of setting e bytes ts) ≤ length ts
  unfolding reported_names
  few_names =
      let l : List NameAt = judged false 0 0 (tree e ts) in
      cond-all (λ (m : List NameAt). length m ≤ length ts) (eqb setting OLD_SETTING) {x = []} {y = breaking bytes l} (omega arith)
      (omega (arith, breaking_few bytes l, judged_few false 0 0 (tree e ts) (tree_right e ts), tree_tokens))

  -- WHERE THEY STAND
  pub names_within : NamesWithin (length ts) (byte_count ts) (names_of setting e bytes ts)
  unfolding reported_names
  names_within =
      let l : List NameAt = judged false 0 0 (tree e ts) in
      cond-all (NamesWithin (length ts) (byte_count ts)) (eqb setting OLD_SETTING) {x = []} {y = breaking bytes l} tt
      (breaking_within (length ts) (byte_count ts) bytes l
      (judged_within (length ts) (byte_count ts) false 0 0 (tree e ts) (tree_right e ts) (omega (arith, tree_tokens)) (omega (arith, tree_width))))

-- ---------------------------------------------------------------- their report rows

-- EVERY NUMBER IN THEM; m: a bound on the tokens, the bytes and the expectations
pub name_numbers_below : (m n b first : ℕ) (l : List NameAt) → CODES ≤ m → n < m → b < m → first < m → NamesWithin n b l → Below m (name_numbers first l)
unfolding name_numbers
name_numbers_below m n b first [] c t i p h = tt
name_numbers_below m n b first (x ∷ l) c t i p h =
    let f : x.first_token < n = omega (arith, h.0) in
    let s : x.start ≤ x.end = omega (arith, h.1) in
    let e : x.end ≤ b = omega (arith, h.2) in
    (omega arith, (omega arith, (omega arith, (omega arith, (omega arith, (omega arith, (omega arith, (omega arith, (omega arith, name_numbers_below m n b first l c t i p h.3)))))))))

-- the place of the first that does not fit
pub names_placed : (n b room : ℕ) (l : List NameAt) → NamesWithin n b l → Placed n (names_fit room l)
unfolding names_fit place_of
names_placed n b room [] h = tt
names_placed n b zero (x ∷ l) h = omega (arith, h.0)
names_placed n b (suc room) (x ∷ l) h = names_placed n b room l h.3
