-- Whether a program takes a token: an analysis of what it surely does before it takes its first. Its table says, for
-- each counted function, that it takes a token where it must; that the table holds of the grammar is computed.
use mathlib.Core.Path.{◌≡◌, refl}
use mathlib.Core.Bool.{Bool, true, false, ◌&&◌, ◌||◌}
use Rattle.definitions.specs.Prog.{Rule, item, propvalues, eat_cell, expr_binding_power, Act, silent_at, at_end, immediate, immediate_next, add_expected, bump, bump_name, bump_argument, emit, emit_unclosed, less}
use Rattle.definitions.specs.Grammar.{grammar, sourcefile_part}
use Rattle.laws.proofs.Analysis.{Look, same, Domain, look, looks_within}

-- What may be, at a place that a program comes to: a token was taken since it began; none was, and one is there to
-- take; none was, and none is left. Where none of the three may be, the place is not reached.
pub record Fact : Type 0 where
  pub took : Bool
  pub there : Bool
  pub gone : Bool

abbrev pub fact : Bool → Bool → Bool → Fact
fact t h g = record { took = t; there = h; gone = g }

abbrev pub never : Fact
never = fact false false false

abbrev pub taking : Fact
taking = fact true false false

abbrev pub standing : Fact
standing = fact false true false

abbrev pub anything : Fact
anything = fact true true true

infixr 30 ◌∪◌
abbrev pub ◌∪◌ : Fact → Fact → Fact
d ∪ e = fact (d.took || e.took) (d.there || e.there) (d.gone || e.gone)

-- a ⊆ b for tests
abbrev pub implies : Bool → Bool → Bool
implies true b = b
implies false b = true

abbrev pub within : Fact → Fact → Bool
within d e = implies d.took e.took && (implies d.there e.there && implies d.gone e.gone)

-- ---------------------------------------------------------------- the analysis

-- an action that answers no or yes, and one that answers yes
abbrev pub tested : Fact → Fact → Look Fact
tested n y = record { ok = true; if_no = n; if_yes = y; if_also = never; if_again = never }

abbrev pub done_so : Fact → Look Fact
done_so d = record { ok = true; if_no = never; if_yes = d; if_also = never; if_again = never }

-- a token that is there is taken
abbrev pub bumped : Fact → Fact
bumped d = fact (d.took || d.there) false d.gone

unfoldable pub act_facts : Act → Fact → Look Fact
act_facts (silent_at ks) d = tested d (fact d.took d.there false)
act_facts at_end d = tested (fact d.took d.there false) (fact d.took false d.gone)
act_facts (immediate k) d = tested d d
act_facts (immediate_next k) d = tested d d
act_facts (add_expected k) d = done_so d
act_facts bump d = done_so (bumped d)
act_facts (bump_name ks) d = done_so (bumped d)
act_facts bump_argument d = same true anything
act_facts (emit m h) d = done_so d
act_facts emit_unclosed d = done_so d
act_facts (less m n) d = tested d d

-- A token may have been taken before, and then it stays so: what follows is looked at only for where none was, and not
-- at all where it is not reached.
abbrev pub or_took : Bool → Fact → Fact
or_took t d = fact (t || d.took) d.there d.gone

abbrev pub or_took_all : Bool → Look Fact → Look Fact
or_took_all t l =
    record { ok = l.ok; if_no = or_took t l.if_no; if_yes = or_took t l.if_yes; if_also = or_took t l.if_also; if_again = or_took t l.if_again }

unfoldable pub fresh : Bool → Bool → (Fact → Look Fact) → Look Fact
fresh true g f = f (fact false true g)
fresh false true f = f (fact false false true)
fresh false false f = same true never

unfoldable pub facts_from : Fact → (Fact → Look Fact) → Look Fact
unfolding fresh
facts_from d f = or_took_all d.took (fresh d.there d.gone f)

abbrev pub taking_tokens : Domain
taking_tokens = record { Fact = Fact; never = never; unknown = anything; join = ◌∪◌; within = within; acts = act_facts; from = facts_from }

-- ---------------------------------------------------------------- the table

-- where a token is there, an item and values take one, and so does a cell or an expression that does not answer no
abbrev pub there_table : Rule → Look Fact
there_table item = same true taking
there_table (propvalues semicolon) = same true taking
there_table (eat_cell e) = record { ok = true; if_no = fact true true false; if_yes = taking; if_also = taking; if_again = taking }
there_table (expr_binding_power min-bp) = record { ok = true; if_no = fact true true false; if_yes = taking; if_also = taking; if_again = taking }

abbrev pub by_there : Rule → Bool → Bool → Bool → Look Fact
by_there r t true false = or_took_all t (there_table r)
by_there r t true true = same true anything
by_there r t false true = same true anything
by_there r t false false = same true (fact t false false)

unfoldable pub table : Rule → Fact → Look Fact
table r d = by_there r d.took d.there d.gone

-- THE TABLE HOLDS of the grammar: computed
pub table_holds : (r : Rule) → looks_within taking_tokens (look taking_tokens table (grammar r) standing) (there_table r) ≡ true
unfolding look act_facts facts_from table grammar
table_holds item = refl
table_holds (propvalues true) = refl
table_holds (propvalues false) = refl
table_holds (eat_cell true) = refl
table_holds (eat_cell false) = refl
table_holds (expr_binding_power m) = refl

-- and so does one top-level statement take a token
pub part_facts : looks_within taking_tokens (look taking_tokens table sourcefile_part standing) (same true taking) ≡ true
unfolding look act_facts facts_from table sourcefile_part
part_facts = refl
