-- Where the grammar takes a name: an analysis of what is known of the token that a peek comes to. A name may be taken
-- only where a token of its set was just seen; that the grammar does so is computed.
use Prim.Native.Nat.{ℕ}
use mathlib.Core.Path.{◌≡◌, refl}
use mathlib.Core.Bool.{Bool, true, false, ◌&&◌}
use mathlib.Core.List.{List, [], ◌∷◌, ◌++◌}
use Rattle.definitions.specs.Prog.{Rule, item, propvalues, eat_cell, expr_binding_power, Act, silent_at, at_end, immediate, immediate_next, add_expected, bump, bump_name, bump_argument, emit, emit_unclosed, less}
use Rattle.definitions.specs.Check.{NAME_SET}
use Rattle.definitions.specs.Token.{one_of}
use Rattle.definitions.specs.Grammar.{grammar, Entry, SourceFile, ReferenceNoamp, PropValues, Cells, whole}
use Rattle.laws.proofs.Analysis.{Look, same, Domain, look}

-- the token that a peek comes to is one of these kinds, or nothing is known. never: this place is not reached.
pub data Known : Type 0 where
  never nothing : Known
  among : List ℕ → Known

infixr 30 ◌∪◌
abbrev pub ◌∪◌ : Known → Known → Known
never ∪ d = d
nothing ∪ d = nothing
among ks ∪ never = among ks
among ks ∪ nothing = nothing
among ks ∪ among js = among (ks ++ js)

abbrev pub says_less : Known → Known → Bool
says_less never e = true
says_less nothing never = false
says_less nothing nothing = true
says_less nothing (among js) = false
says_less (among ks) never = false
says_less (among ks) nothing = true
says_less (among ks) (among js) = false

-- each of the first kinds is one of the second
abbrev pub inside : List ℕ → List ℕ → Bool
inside [] js = true
inside (k ∷ ks) js = one_of js k && inside ks js

-- a name of the set ks may be taken
abbrev pub may_name : Known → List ℕ → Bool
may_name never ks = true
may_name nothing ks = false
may_name (among js) ks = inside js ks && inside ks NAME_SET

-- an action that answers no or yes, and one that answers yes
abbrev pub tested : Known → Known → Look Known
tested n y = record { ok = true; if_no = n; if_yes = y; if_also = never; if_again = never }

abbrev pub done_so : Bool → Known → Look Known
done_so b d = record { ok = b; if_no = never; if_yes = d; if_also = never; if_again = never }

unfoldable pub look_act : Act → Known → Look Known
unfolding one_of
look_act (silent_at ks) d = tested d (among ks)
look_act at_end d = tested d d
look_act (immediate k) d = tested d d
look_act (immediate_next k) d = tested d d
look_act (add_expected k) d = done_so true d
look_act bump d = done_so true nothing
look_act (bump_name ks) d = done_so (may_name d ks) nothing
look_act bump_argument d = same true nothing
look_act (emit m h) d = done_so true d
look_act emit_unclosed d = done_so true d
look_act (less m n) d = tested d d

-- a program that is not reached is not looked at
unfoldable pub look_from : Known → (Known → Look Known) → Look Known
look_from never f = same true never
look_from nothing f = f nothing
look_from (among ks) f = f (among ks)

abbrev pub names : Domain
names = record { Fact = Known; never = never; unknown = nothing; join = ◌∪◌; within = says_less; acts = look_act; from = look_from }

-- after a call nothing is known
abbrev pub calls : Rule → Known → Look Known
calls r d = same true nothing

-- THE GRAMMAR takes every name where it may: computed
pub grammar_looks : (r : Rule) → (look names calls (grammar r) nothing).ok ≡ true
unfolding look look_act look_from grammar
grammar_looks item = refl
grammar_looks (propvalues true) = refl
grammar_looks (propvalues false) = refl
grammar_looks (eat_cell true) = refl
grammar_looks (eat_cell false) = refl
grammar_looks (expr_binding_power m) = refl

pub whole_looks : (e : Entry) → (look names calls (whole e) nothing).ok ≡ true
unfolding look look_act look_from whole
whole_looks SourceFile = refl
whole_looks ReferenceNoamp = refl
whole_looks PropValues = refl
whole_looks Cells = refl
