-- Where an LParen stands: the statement of specs/Brackets.antt, proved for every accepted call.
use Prim.Native.Nat.{ℕ, ◌*◌}
use mathlib.Core.Path.{◌≡◌, refl, ap, sym, ◌∙◌, subst}
use mathlib.Core.Bool.{true, false, not, ◌&&◌, false≢true}
use mathlib.Core.List.{List, [], ◌∷◌}
use lib.Dec.{eqb}
use lib.ListN.{take}
use Rattle.definitions.specs.Layout.{TREE_ROW, MOST_OPEN_CALLS}
use Rattle.definitions.specs.TokenKind as K
use Rattle.definitions.specs.NodeKind as N
use Rattle.definitions.specs.Token.{Token, tokens_of, seen, drop_trivia}
use Rattle.definitions.specs.Grammar.{Entry, SourceFile, ReferenceNoamp, PropValues, Cells, entry, whole, left_over, root_kind}
use Rattle.definitions.specs.Skeleton.{no_label}
use Rattle.definitions.specs.Run.{State, Out, taken, add, exec, run}
use Rattle.definitions.specs.Place.{after, root}
use Rattle.definitions.specs.Report.{pushes}
use Rattle.definitions.specs.Call.{Result, sheets, run_entry}
use Rattle.laws.specs.TreeRows.{read}
use Rattle.basics.proofs.Tests.{and_left, and_right, and_both}
use Rattle.laws.proofs.Scan.{fits_clear}
use Rattle.laws.proofs.Clear.{BelowLimits, join_within}
use Rattle.laws.proofs.Between.{entry_reads}
use Rattle.laws.proofs.Decode.{read_back, shown, shown_counts}
use Rattle.laws.proofs.Lossless.{in_front}
use Rattle.laws.proofs.Input.{checked_input}
use Rattle.laws.proofs.Accepted.{accepted_call}
use Rattle.brackets.specs.Brackets.{Outline, end, leaf, node, outline, is_end, starts_open, has_angle, no_bracket, children_proper, elsewhere, list_below, leaf_proper, node_proper, proper, root_proper, tree_proper, BracketsProper}
use Rattle.brackets.specs.Brackets as B
use Rattle.laws.proofs.FactsHold.{or_left, or_right}
use Rattle.brackets.proofs.Bits.{at}
use Rattle.brackets.proofs.Flat.{◌⊞◌, flat, flat_join, kinds_inside}
use Rattle.brackets.proofs.Summary.{exact}
use Rattle.brackets.proofs.Ahead.{by_class, class_of, class, none_left, Allows}
use Rattle.brackets.proofs.Meaning.{Holds}
use Rattle.brackets.proofs.Table.{no_paren, entry_fact}
use Rattle.brackets.proofs.Runs.{entry_gives}
use Rattle.brackets.proofs.LeftOver.{Leaves, none_left_over, some_left_over}

-- ---------------------------------------------------------------- the root's children

-- the parts that an entry made, and what follows them
root_join : (r : ℕ) (p x : Outline) → no_bracket p ≡ true → proper (list_below elsewhere r false) p ≡ true → root_proper r x ≡ true → root_proper r (p ⊞ x) ≡ true
unfolding no_bracket proper root_proper ◌⊞◌
root_join r end x e f g = g
root_join r (leaf k p) x e f g =
    and_both (and_left (not (eqb k K.LParen)) _ e)
    (root_join r p x (and_right (not (eqb k K.LParen)) _ e) (and_right (leaf_proper (list_below elsewhere r false) k) _ f) g)
root_join r (node k c p) x e f g =
    let y = list_below elsewhere r false in
    let f₁ = and_right (node_proper y k c) _ f in
    let f₂ = and_right (children_proper k c) _ f₁ in
    let i = proper (list_below y k (has_angle c)) c in
    let one : proper y (node k c end) ≡ true = and_both (and_left (node_proper y k c) _ f) (and_both (and_left (children_proper k c) _ f₁) (and_both (and_left i _ f₂) refl)) in
    and_both (or_right (is_end (p ⊞ x) && B.left_over r k c) _ one) (root_join r p x e (and_right i _ f₂) g)

-- an LParen is not ahead
not_ahead : (k : ℕ) → at (class_of k) no_paren ≡ true → not (eqb k K.LParen) ≡ true
not_ahead k e = by_class (λ (j c : ℕ). at c no_paren ≡ true → not (eqb j K.LParen) ≡ true) k (λ h. absurd (false≢true h)) (λ h. refl) (λ h. refl) (λ f _ _ h. ap not f) e

-- the token ahead of what is left over, by the entry
abbrev Starts : Entry → ℕ → Type 0
Starts SourceFile k = ⊥
Starts ReferenceNoamp k = Unit {0}
Starts PropValues k = Unit {0}
Starts Cells k = not (eqb k K.LParen) ≡ true

left_fits : (e : Entry) (k : ℕ) (c : Outline) → Leaves k c → Starts e k → B.left_over (root_kind e) N.ParseError c ≡ true
unfolding B.left_over root_kind starts_open
left_fits SourceFile k c h s = absurd s
left_fits ReferenceNoamp k c h s = and_both h.no_nodes refl
left_fits PropValues k c h s = and_both h.no_nodes refl
left_fits Cells k c h s = and_both h.no_nodes (ap (λ (j : ℕ). not (eqb j K.LParen)) h.first_is ∙ s)

starts : (e : Entry) (q : Outline) (s : State) (t : Token) (ts : List Token) → drop_trivia s.rest ≡ t ∷ ts → Holds (entry_fact e) q s → Starts e (seen t)
unfolding class
starts SourceFile q s t ts e h =
    absurd (by_class (λ (j c : ℕ). at c none_left ≡ true → ⊥) (seen t) (λ z. false≢true z) (λ z. false≢true z) (λ z. false≢true z) (λ _ _ _ z. false≢true z) (subst (Allows none_left) e h.ahead))
starts ReferenceNoamp q s t ts e h = tt
starts PropValues q s t ts e h = tt
starts Cells q s t ts e h = not_ahead (seen t) (subst (Allows no_paren) e h.ahead)

-- what an entry made fits under its root
free_of : (e : Entry) (q : Outline) (s : State) → Holds (entry_fact e) q s → no_bracket q ≡ true
unfolding exact
free_of SourceFile q s h = h.sums.flags.holds 1 refl
free_of ReferenceNoamp q s h = h.sums.flags.holds 1 refl
free_of PropValues q s h = h.sums.flags.holds 1 refl
free_of Cells q s h = h.sums.flags.holds 1 refl

fits_of : (e : Entry) (q : Outline) (s : State) → Holds (entry_fact e) q s → proper (list_below elsewhere (root_kind e) false) q ≡ true
unfolding exact list_below root_kind
fits_of SourceFile q s h = h.fit
fits_of ReferenceNoamp q s h = h.fit
fits_of PropValues q s h = h.sums.flags.holds 11 refl
fits_of Cells q s h = h.sums.flags.holds 10 refl

-- ---------------------------------------------------------------- the whole run

module _ (e : Entry) (ts : List Token) where
  abbrev made : Out
  made = exec (run MOST_OPEN_CALLS) no_label (entry e) (taken ts)

  abbrev left : Out
  left = exec (run MOST_OPEN_CALLS) no_label left_over made.state

  left_fit : Holds (entry_fact e) (flat made.made) made.state → root_proper (root_kind e) (flat left.made) ≡ true
  unfolding root_proper is_end
  left_fit h = go (drop_trivia made.state.rest) refl
    where
      go : (l : List Token) → drop_trivia made.state.rest ≡ l → root_proper (root_kind e) (flat left.made) ≡ true
      go [] z = ap (root_proper (root_kind e)) (none_left_over (run MOST_OPEN_CALLS) no_label made.state z)
      go (t ∷ us) z =
          let d = some_left_over (run MOST_OPEN_CALLS) no_label made.state t us z in
          ap (root_proper (root_kind e)) d.2
          ∙ and_both (or_left _ _ (left_fits e (seen t) d.0 d.1 (starts e (flat made.made) made.state t us z h))) refl

  -- THE ROOT'S CHILDREN
  run_fits : BelowLimits (run_entry e ts) → root_proper (root_kind e) (flat (run_entry e ts)) ≡ true
  unfolding run_entry whole exec add
  run_fits w =
      let h = entry_gives e ts (join_within made.made left.made w).0 in
      ap (root_proper (root_kind e)) (flat_join made.made left.made)
      ∙ root_join (root_kind e) (flat made.made) (flat left.made) (free_of e (flat made.made) made.state h) (fits_of e (flat made.made) made.state h) (left_fit h)

  tree_fit : BelowLimits (run_entry e ts) → tree_proper (outline (shown (root (root_kind e) (run_entry e ts) ts))) ≡ true
  unfolding root shown outline tree_proper is_end
  tree_fit w = ap (root_proper (root_kind e)) (kinds_inside (run_entry e ts) ts (after (run_entry e ts) ts) ((entry_reads e ts).reads ts refl)) ∙ run_fits w

-- WHERE AN LPAREN STANDS
pub brackets_proper : BracketsProper
brackets_proper n setting bytes tokens b h =
    let a = accepted_call n setting bytes tokens b h in
    let c = checked_input bytes tokens a.input in
    let o = run_entry a.entry (tokens_of tokens) in
    let t = root (root_kind a.entry) o (tokens_of tokens) in
    let w : BelowLimits o = record { clear = fits_clear (pushes o) _ a.left a.fitted } in
    subst (λ (r : Result). tree_proper (outline (read (take (TREE_ROW * r.answer.tree_count) r.buffers.trees))) ≡ true) (sym a.returns)
    (unfold sheets in (ap (λ (l : List ℕ). tree_proper (outline (read l))) (in_front a.entry bytes (tokens_of tokens) b c.covered) ∙ ap (λ r. tree_proper (outline r)) (read_back (shown t) (shown_counts t)) ∙ tree_fit a.entry (tokens_of tokens) w))
