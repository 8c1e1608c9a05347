-- THE WAY UP, for the rows that an accepted call leaves.
use Prim.Native.Nat.{ℕ, zero, suc, ◌<◌}
use native.Mathlib.Omega.{arith}
use mathlib.Core.Path.{◌≡◌, refl, ap, sym, ◌∙◌, subst}
use mathlib.Core.List.{List}
use lib.ListN.{length}
use Rattle.definitions.specs.Layout.{TREE_ROW}
use Rattle.definitions.specs.Token.{Token, tokens_of}
use Rattle.definitions.specs.Grammar.{Entry, root_kind}
use Rattle.definitions.specs.Place.{Tree, nil, subtree, ◌⊕◌, lead, after, place, root}
use Rattle.definitions.specs.Strict.{NameAt}
use Rattle.definitions.specs.Call.{Buffers, sheets, kept, run_entry, names_of}
use Rattle.laws.proofs.Accepted.{Accepted, accepted_call}
use Rattle.rows.specs.ResultRows.{Row, tree_rows}
use Rattle.rows.proofs.Written.{rows_of, rows_wide, rows_flat, written_rows}
use Rattle.parents.specs.Upwards.{parent_of, holder, Upwards, Parents}
use Rattle.parents.proofs.Named.{names_child, child_names, earlier, inside, chains, to_root}
use Rattle.parents.proofs.Counted.{counts}
use Rattle.parents.proofs.Held.{parent_holds}

-- the rows of a root and what is under it
pub upwards : (k : ℕ) (t : Tree) → Upwards (rows_of 0 0 (subtree k t nil))
unfolding rows_of holder
upwards k t =
    let l : List Row = rows_of 0 0 (subtree k t nil) in
    let all = names_child k t in
    record {
      root = (omega arith, refl);
      earlier = earlier l all;
      inside = inside l all;
      to_root = to_root l all;
      child_names = child_names l all;
      names_child = all;
      chains = chains l all;
      counts = counts k t;
      parents = from_counts;
    }
  where
    from_counts : (c : ℕ) → c < length (rows_of 0 0 (subtree k t nil)) → parent_of (rows_of 0 0 (subtree k t nil)) c ≡ holder (rows_of 0 0 (subtree k t nil)) c c
    from_counts zero h = refl
    from_counts (suc c) h = sym (parent_holds _ _ (suc c) (names_child k t (suc c) (omega arith) h))

-- what an accepted call wrote, whatever Names are reported
pub written : (e : Entry) (ts : List Token) (l : List NameAt) (b : Buffers) → tree_rows (kept (sheets e ts (run_entry e ts) l) b) ≡ rows_of 0 0 (root (root_kind e) (run_entry e ts) ts)
unfolding tree_rows sheets
written e ts l b = let t = root (root_kind e) (run_entry e ts) ts in written_rows TREE_ROW (rows_of 0 0 t) _ b.trees (omega arith) (rows_wide t 0 0) (rows_flat t 0 0)

root_upwards : (e : Entry) (ts : List Token) → Upwards (rows_of 0 0 (root (root_kind e) (run_entry e ts) ts))
unfolding root
root_upwards e ts = upwards (root_kind e) (place (run_entry e ts) ts ⊕ lead (after (run_entry e ts) ts))

-- PARENTS
pub parents : Parents
parents n setting bytes tokens b h =
    let a : Accepted n setting bytes tokens b = accepted_call n setting bytes tokens b h in
    let ts : List Token = tokens_of tokens in
    subst Upwards
    (sym (ap tree_rows a.returns ∙ written a.entry ts (names_of setting a.entry bytes ts) b))
    (root_upwards a.entry ts)
