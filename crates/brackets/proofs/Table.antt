-- What is said of each counted function, and that it holds of the grammar: computed.
use mathlib.Core.Path.{◌≡◌, refl}
use mathlib.Core.Bool.{Bool, true, false, cond}
use mathlib.Core.List.{List, [], ◌∷◌}
use Rattle.definitions.specs.Prog.{Rule, item, propvalues, eat_cell, expr_binding_power}
use Rattle.definitions.specs.Grammar.{grammar, Entry, SourceFile, ReferenceNoamp, PropValues, Cells, entry}
use Rattle.laws.proofs.Analysis.{Look, same}
use Rattle.brackets.specs.Brackets.{end}
use Rattle.brackets.proofs.Bits.{any, both}
use Rattle.brackets.proofs.Summary.{Sum, exact}
use Rattle.brackets.proofs.Ahead.{anything, none_left, some_left}
use Rattle.brackets.proofs.Look.{Fact, never, fact, looks_within, look, shapeless}

-- no LParen is among its children; it fits among cells; it fits among values; it fits in a DtExpr
abbrev pub flags : Bool → Bool → Bool → Sum
flags c v e =
    record {
      empty = false;
      free = true;
      first = true;
      lone = false;
      called = false;
      last = true;
      begun = false;
      plain = false;
      leads = false;
      angleless = false;
      in_cells = c;
      in_values = v;
      in_cell_branches = false;
      in_value_branches = false;
      in_expression = e;
    }

-- anything but an LParen ahead
abbrev pub no_paren : List Bool
no_paren = true ∷ false ∷ true ∷ true ∷ true ∷ []

abbrev pub cell_look : Look Fact
cell_look =
    let d = fact anything (flags true false false) in
    record { ok = true; if_no = fact no_paren (flags true false false); if_yes = d; if_also = d; if_again = d }

-- where none is left
abbrev pub cell_at_end : Look Fact
cell_at_end = record { ok = true; if_no = fact none_left (flags true false false); if_yes = never; if_also = never; if_again = never }

abbrev pub by_rule : Rule → List Bool → Look Fact
by_rule item n = same true (fact anything (flags false false false))
by_rule (propvalues b) n = same true (fact anything (flags false true false))
by_rule (eat_cell b) n = cond (any (both n some_left)) cell_look cell_at_end
by_rule (expr_binding_power k) n = same true (fact anything (flags false false true))

unfoldable pub table : Rule → Fact → Look Fact
table r never = same true never
table r (fact n m) = by_rule r n

-- THE TABLE HOLDS of the grammar: computed
pub table_holds : (r : Rule) → looks_within (look table (grammar r) (fact anything (exact end))) (by_rule r anything) ≡ true
unfolding look table grammar
table_holds item = refl
table_holds (propvalues true) = refl
table_holds (propvalues false) = refl
table_holds (eat_cell true) = refl
table_holds (eat_cell false) = refl
table_holds (expr_binding_power m) = refl

pub cell_holds : (b : Bool) → looks_within (look table (grammar (eat_cell b)) (fact none_left (exact end))) cell_at_end ≡ true
unfolding look table grammar
cell_holds true = refl
cell_holds false = refl

-- ---------------------------------------------------------------- the entries

-- what is known where an entry ends: of a source file all is taken, and after cells no LParen is ahead
abbrev pub entry_fact : Entry → Fact
entry_fact SourceFile = fact none_left (flags false false false)
entry_fact ReferenceNoamp = fact anything (flags false false false)
entry_fact PropValues = fact anything (flags false true false)
entry_fact Cells = fact no_paren (flags true false false)

-- and it is so: computed
pub entry_holds : (e : Entry) → looks_within (look table (entry e) (fact anything (exact end))) (same true (entry_fact e)) ≡ true
unfolding look table entry
entry_holds SourceFile = refl
entry_holds ReferenceNoamp = refl
entry_holds PropValues = refl
entry_holds Cells = refl

-- no counted function completes a marker around it
pub grammar_shapeless : (r : Rule) → shapeless (grammar r) ≡ true
unfolding shapeless grammar
grammar_shapeless item = refl
grammar_shapeless (propvalues true) = refl
grammar_shapeless (propvalues false) = refl
grammar_shapeless (eat_cell true) = refl
grammar_shapeless (eat_cell false) = refl
grammar_shapeless (expr_binding_power m) = refl

pub entry_shapeless : (e : Entry) → shapeless (entry e) ≡ true
unfolding shapeless entry
entry_shapeless SourceFile = refl
entry_shapeless ReferenceNoamp = refl
entry_shapeless PropValues = refl
entry_shapeless Cells = refl
