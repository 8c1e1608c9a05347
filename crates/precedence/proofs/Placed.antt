-- Every DtExpr of a whole run's tree is settled: its skeleton's cells are judged, and marks never fall.
use Prim.Native.Nat.{ℕ, zero, suc, ◌≤◌}
use native.Mathlib.Omega.{arith}
use mathlib.Core.Path.{◌≡◌, refl, sym, ◌∙◌, subst}
use mathlib.Core.List.{List, [], ◌∷◌, ◌++◌, append_assoc, append-nil}
use lib.ListN.{length, drop, take}
use Rattle.definitions.specs.Layout.{MOST_OPEN_CALLS}
use Rattle.definitions.specs.TokenKind as K
use Rattle.definitions.specs.NodeKind as N
use Rattle.definitions.specs.Token.{Token, drop_trivia, past}
use Rattle.definitions.specs.Grammar.{Entry, SourceFile, ReferenceNoamp, PropValues, Cells as CellsEntry, whole, root_kind}
use Rattle.definitions.specs.Skeleton.{no_label, Skeleton, done, token, name, node, ignored, report, over}
use Rattle.definitions.specs.Run.{mark_of, taken, exec, run}
use Rattle.definitions.specs.Place.{leaf, ◌⊕◌, lead, front, after, place, root}
use Rattle.definitions.specs.Report.{Push, event, reported, exceeded, pushes}
use Rattle.definitions.specs.Call.{run_entry}
use Rattle.laws.proofs.Marks.{Falls, entry_marks}
use Rattle.laws.proofs.Placed.{lead_whole, front_whole}
use Rattle.laws.specs.Pushes.{NoneExceeded}
use Rattle.precedence.proofs.Cell.{CellOf}
use Rattle.precedence.proofs.Cells.{Cells}
use Rattle.precedence.proofs.Everywhere.{entry_cells}
use Rattle.precedence.proofs.Settle.{Settled, settle_cell, Each, each_then, each_lead, each_front, each_branch, place_then}

drop_take : (n : ℕ) (l : List Token) → drop (length (take n l)) l ≡ drop n l
drop_take zero l = refl
drop_take (suc n) [] = refl
drop_take (suc n) (t ∷ l) = drop_take n l

-- what is pushed around the parts of a marker's skeleton
module _ (pre a i o post : List Push) (x y : Push) where
  around : List Push
  around = pre ++ ((a ++ (x ∷ (i ++ (y ∷ o)))) ++ post)

  around_a : around ≡ pre ++ (a ++ (x ∷ (i ++ (y ∷ (o ++ post)))))
  unfolding around
  around_a = simp append_assoc

  around_i : around ≡ (pre ++ (a ++ (x ∷ []))) ++ (i ++ (y ∷ (o ++ post)))
  unfolding around
  around_i = simp append_assoc

  around_o : around ≡ (pre ++ (a ++ (x ∷ (i ++ (y ∷ []))))) ++ (o ++ post)
  unfolding around
  around_o = simp append_assoc

module _ (all : List Push) (from to : ℕ) (falls : Falls from all to) where
  -- where p was made in the course of the whole
  Part : List Push → Type 0
  Part l = (pre : List Push) × (post : List Push) × (all ≡ pre ++ (l ++ post))

  part_next : (x : Push) (l : List Push) → Part (x ∷ l) → Part l
  unfolding Part
  part_next x l p = (p.0 ++ (x ∷ []), p.1, p.2 ∙ simp append_assoc)

  module _ (a i o : List Push) (x y : Push) (p : Part (a ++ (x ∷ (i ++ (y ∷ o))))) where
    part_a : Part a
    unfolding Part around
    part_a = (p.0, x ∷ (i ++ (y ∷ (o ++ p.1))), p.2 ∙ around_a p.0 a i o p.1 x y)

    part_i : Part i
    unfolding Part around
    part_i = (p.0 ++ (a ++ (x ∷ [])), y ∷ (o ++ p.1), p.2 ∙ around_i p.0 a i o p.1 x y)

    part_o : Part o
    unfolding Part around
    part_o = (p.0 ++ (a ++ (x ∷ (i ++ (y ∷ [])))), p.1, p.2 ∙ around_o p.0 a i o p.1 x y)

  -- a DtExpr's children
  settle_node : (k m m' : ℕ) (a i o : Skeleton) (u : List Token) → Part (pushes a ++ (event m ∷ (pushes i ++ (event m' ∷ pushes o))))
      → (k ≡ N.DtExpr → (a ≡ done) × CellOf m m' i u × (length (after i u) ≤ m')) → k ≡ N.DtExpr → Settled all u (place a u ⊕ place i (after a u))
  unfolding Part around pushes place after ◌⊕◌
  settle_node k m m' a i o u p c e =
      let d = c e in
      let q : all ≡ p.0 ++ (pushes a ++ (event m ∷ (pushes i ++ (event m' ∷ (pushes o ++ p.1))))) = p.2 ∙ around_a p.0 (pushes a) (pushes i) (pushes o) p.1 (event m) (event m') in
      let z : all ≡ p.0 ++ (event m ∷ (pushes i ++ (event m' ∷ (pushes o ++ p.1)))) =
      subst (λ (s : Skeleton). all ≡ p.0 ++ (pushes s ++ (event m ∷ (pushes i ++ (event m' ∷ (pushes o ++ p.1)))))) d.0 q in
      subst (λ (s : Skeleton). Settled all u (place s u ⊕ place i (after s u))) (sym d.0) (settle_cell all from to falls m m' i p.0 (pushes o ++ p.1) z u d.1 d.2)

  settle : (p : Skeleton) (ts : List Token) → Part (pushes p) → Cells p ts → Each (Settled all) ts (place p ts)
  unfolding Cells place pushes after Each ◌⊕◌
  settle done ts w h = tt
  settle (token t m o) ts w h =
      let u = drop_trivia ts in
      each_then (Settled all) (lead ts) (front u ⊕ place o (past u)) ts u (lead_whole ts) (each_lead (Settled all) ts ts)
      (each_then (Settled all) (front u) (place o (past u)) u (past u) (front_whole u) (each_front (Settled all) u u) (settle o (past u) (part_next (event m) (pushes o) w) h))
  settle (name raw m o) ts w h =
      let u = drop_trivia ts in
      each_then (Settled all) (lead ts) (leaf K.Name (take (length raw) u) (place o (drop (length raw) u))) ts u (lead_whole ts) (each_lead (Settled all) ts ts)
      (subst (λ (l : List Token). Each (Settled all) l (place o (drop (length raw) u))) (sym (drop_take (length raw) u))
      (settle o (drop (length raw) u) (part_next (event m) (pushes o) w) h))
  settle (node k m m' a i o) ts w h =
      let u = drop_trivia ts in
      each_branch (Settled all) k a i (place o (after i (after a u))) ts (settle_node k m m' a i o u w h.0)
      (settle a u (part_a (pushes a) (pushes i) (pushes o) (event m) (event m') w) h.1)
      (settle i (after a u) (part_i (pushes a) (pushes i) (pushes o) (event m) (event m') w) h.2)
      (settle o (after i (after a u)) (part_o (pushes a) (pushes i) (pushes o) (event m) (event m') w) h.3)
  settle (ignored m m' a i o) ts w h =
      place_then (Settled all) a (place i (after a ts) ⊕ place o (after i (after a ts))) ts
      (settle a ts (part_a (pushes a) (pushes i) (pushes o) (event m) (event m') w) h.0)
      (place_then (Settled all) i (place o (after i (after a ts))) (after a ts)
      (settle i (after a ts) (part_i (pushes a) (pushes i) (pushes o) (event m) (event m') w) h.1)
      (settle o (after i (after a ts)) (part_o (pushes a) (pushes i) (pushes o) (event m) (event m') w) h.2))
  settle (report r o) ts w h = settle o ts (part_next (reported r) (pushes o) w) h
  settle (over m o) ts w h = settle o ts (part_next (exceeded m) (pushes o) w) h

-- no entry's root is a DtExpr
root_other : (e : Entry) → root_kind e ≡ N.DtExpr → ⊥
unfolding root_kind
root_other SourceFile h = omega arith
root_other ReferenceNoamp h = omega arith
root_other PropValues h = omega arith
root_other CellsEntry h = omega arith

-- EVERY DTEXPR of a whole tree is settled
pub entry_settled : (e : Entry) (ts : List Token) → NoneExceeded (pushes (run_entry e ts)) → Each (Settled (pushes (run_entry e ts))) ts (root (root_kind e) (run_entry e ts) ts)
unfolding root Each Part
entry_settled e ts c =
    let o = run_entry e ts in
    let all = pushes o in
    let last = mark_of (exec (run MOST_OPEN_CALLS) no_label (whole e) (taken ts)).state in
    let made : Each (Settled all) ts (place o ts) = settle all (length ts) last (entry_marks e ts) o ts ([], [], sym (append-nil all)) (entry_cells e ts c) in
    (λ k. absurd (root_other e k), place_then (Settled all) o (lead (after o ts)) ts made (each_lead (Settled all) (after o ts) (after o ts)), tt)
