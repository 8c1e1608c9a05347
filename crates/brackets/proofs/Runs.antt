-- What the table says holds of every call, with any number of open calls allowed, and of every entry.
use Prim.Native.Nat.{ℕ, zero, suc}
use mathlib.Core.Path.{◌≡◌, refl, sym, ◌∙◌}
use mathlib.Core.Bool.{Bool, true, false, cond, true≢false}
use mathlib.Core.List.{List}
use Rattle.definitions.specs.Layout.{MOST_OPEN_CALLS}
use Rattle.definitions.specs.Prog.{Prog, Rule, item, propvalues, eat_cell, expr_binding_power}
use Rattle.definitions.specs.Token.{Token, drop_trivia, ended}
use Rattle.definitions.specs.Grammar.{grammar, Entry, entry}
use Rattle.definitions.specs.Skeleton.{no_label}
use Rattle.definitions.specs.Run.{State, makes, taken, exec, run}
use Rattle.definitions.specs.Report.{pushes}
use Rattle.basics.proofs.Tests.{and_left}
use Rattle.laws.proofs.Kept.{Stands, stands_taken}
use Rattle.laws.proofs.Clear.{BelowLimits}
use Rattle.laws.proofs.Analysis.{Look, get, same}
use Rattle.brackets.specs.Brackets.{end}
use Rattle.brackets.proofs.Bits.{at_both, at_any, any, both}
use Rattle.brackets.proofs.Flat.{◌⊞◌, flat}
use Rattle.brackets.proofs.Summary.{exact}
use Rattle.brackets.proofs.Ahead.{class, Allows, anything, none_left, some_left, allows_anything, allows_ended, allows_there}
use Rattle.brackets.proofs.Look.{Fact, fact, looks_within, look, shapeless}
use Rattle.brackets.proofs.Meaning.{Holds, out_same, weaken_look, open_gives}
use Rattle.brackets.proofs.Shapes.{exec_shape}
use Rattle.brackets.proofs.Sound.{exec_gives}
use Rattle.brackets.proofs.Scopes.{Inner, begun}
use Rattle.brackets.proofs.Table.{by_rule, table, cell_look, cell_at_end, table_holds, cell_holds, entry_fact, entry_holds, grammar_shapeless, entry_shapeless}

-- no call completes a marker around it
pub run_shape : (n : ℕ) (r : Rule) (s : State) → (run n r s).shape ≡ 0
unfolding run makes
run_shape zero r s = refl
run_shape (suc n) r s = exec_shape (run n) (run_shape n) no_label (grammar r) s (grammar_shapeless r)

-- where no token may stand ahead, none does
none_ahead : (k : List Bool) (l : List Token) → any (both k some_left) ≡ false → Allows k l → Allows none_left l
none_ahead k l e a = go (ended l) refl
  where
    go : (b : Bool) → ended l ≡ b → Allows none_left l
    go true z = allows_ended l z
    go false z = absurd (true≢false (sym (at_any (class l) (both k some_left) (at_both (class l) k some_left a (allows_there l z))) ∙ e))

abbrev Given : ℕ → Type 0
Given n = (r : Rule) (s : State) → Stands s → BelowLimits (run n r s).made → Inner (table r) s (run n r s)

-- a program without a shape, if the calls are as the table says
exec_known : (n : ℕ) → Given n → (p : Prog) → shapeless p ≡ true → (j : List Bool) (l : Look Fact) → looks_within (look table p (fact j (exact end))) l ≡ true
    → (s : State) → Stands s → Allows j (drop_trivia s.rest) → BelowLimits (exec (run n) no_label p s).made
    → Holds (get l (exec (run n) no_label p s).ans) (flat (exec (run n) no_label p s).made) (exec (run n) no_label p s).state
unfolding ◌⊞◌
exec_known n g p plain j l f s h a w =
    let o = exec (run n) no_label p s in
    weaken_look (look table p (fact j (exact end))) l f o.ans (flat o.made) o.state
    (open_gives (look table p (fact j (exact end))) end o (exec_shape (run n) (run_shape n) no_label p s plain)
    (exec_gives n g (run_shape n) no_label p (fact j (exact end)) end s (and_left (look table p (fact j (exact end))).ok _ f) h (begun j s a) w))

module _ (n : ℕ) (g : Given n) (s : State) (h : Stands s) where
  by_look : (r : Rule) (j : List Bool) → Allows j (drop_trivia s.rest) → (l : Look Fact) → looks_within (look table (grammar r) (fact j (exact end))) l ≡ true
      → BelowLimits (run (suc n) r s).made → Holds (get l (run (suc n) r s).ans) (flat (run (suc n) r s).made) (run (suc n) r s).state
  unfolding run
  by_look r j a l f w = exec_known n g (grammar r) (grammar_shapeless r) j l f s h a w

  -- a cell, by whether a token may be there
  cell_by : (b : Bool) (k : List Bool) → Allows k (drop_trivia s.rest) → BelowLimits (run (suc n) (eat_cell b) s).made → (x : Bool) → any (both k some_left) ≡ x
      → Holds (get (cond x cell_look cell_at_end) (run (suc n) (eat_cell b) s).ans) (flat (run (suc n) (eat_cell b) s).made) (run (suc n) (eat_cell b) s).state
  cell_by b k a w true z = by_look (eat_cell b) anything (allows_anything _) cell_look (table_holds (eat_cell b)) w
  cell_by b k a w false z = by_look (eat_cell b) none_left (none_ahead k (drop_trivia s.rest) z a) cell_at_end (cell_holds b) w

  by_kind : (r : Rule) (k : List Bool) → Allows k (drop_trivia s.rest) → BelowLimits (run (suc n) r s).made
      → Holds (get (by_rule r k) (run (suc n) r s).ans) (flat (run (suc n) r s).made) (run (suc n) r s).state
  by_kind item k a w = by_look item anything (allows_anything _) (by_rule item anything) (table_holds item) w
  by_kind (propvalues b) k a w = by_look (propvalues b) anything (allows_anything _) (by_rule (propvalues b) anything) (table_holds (propvalues b)) w
  by_kind (eat_cell b) k a w = cell_by b k a w (any (both k some_left)) refl
  by_kind (expr_binding_power m) k a w =
      by_look (expr_binding_power m) anything (allows_anything _) (by_rule (expr_binding_power m) anything) (table_holds (expr_binding_power m)) w

-- EVERY CALL
pub run_gives : (n : ℕ) (r : Rule) (s : State) → Stands s → BelowLimits (run n r s).made → Inner (table r) s (run n r s)
unfolding run makes pushes table
run_gives zero r s h w k a ok = absurd w.clear
run_gives (suc n) r s h w k a ok = by_kind n (run_gives n) s h r k a w

-- EVERY ENTRY, from the tokens of a file on
pub entry_gives : (e : Entry) (ts : List Token) → BelowLimits (exec (run MOST_OPEN_CALLS) no_label (entry e) (taken ts)).made
    → Holds (entry_fact e) (flat (exec (run MOST_OPEN_CALLS) no_label (entry e) (taken ts)).made) (exec (run MOST_OPEN_CALLS) no_label (entry e) (taken ts)).state
entry_gives e ts w =
    let o = exec (run MOST_OPEN_CALLS) no_label (entry e) (taken ts) in
    out_same (entry_fact e) o.ans (flat o.made) o.state
    (exec_known MOST_OPEN_CALLS (run_gives MOST_OPEN_CALLS) (entry e) (entry_shapeless e) anything (same true (entry_fact e)) (entry_holds e) (taken ts) (stands_taken ts) (allows_anything _) w)
