-- What an analysis knows at a place that a program comes to: by what is pending there, and by whether a token was taken
-- since the turn began, what is known of the token that a peek comes to.
use Prim.Native.Nat.{ℕ}
use mathlib.Core.Bool.{Bool, true, false, cond, ◌&&◌}
use mathlib.Core.List.{List, [], ◌∷◌}
use lib.Dec.{eqb}
use Rattle.definitions.specs.TokenKind as K
use Rattle.facts.proofs.Known.{Known, never, ◌∪◌, within, is_never}

-- ---------------------------------------------------------------- what is pending

-- nothing; [Semicolon]; [Comma]; [Comma, Semicolon]; any other list, which will be none of these whatever is pushed
pub data Pend : Type 0 where
  empty semi comma both other : Pend

-- one expectation more, at the end of the list
unfoldable pub push_semi : Pend → Pend
push_semi empty = semi
push_semi semi = other
push_semi comma = both
push_semi both = other
push_semi other = other

unfoldable pub push_comma : Pend → Pend
push_comma empty = comma
push_comma semi = other
push_comma comma = other
push_comma both = other
push_comma other = other

unfoldable pub push : ℕ → Pend → Pend
unfolding push_semi push_comma
push k m = cond (eqb k K.Semicolon) (push_semi m) (cond (eqb k K.Comma) (push_comma m) other)

unfoldable pub pend_from : Pend → List ℕ → Pend
unfolding push
pend_from m [] = m
pend_from m (k ∷ ks) = pend_from (push k m) ks

-- ---------------------------------------------------------------- by what is pending

pub record Five : Type 0 where
  pub if_empty : Known
  pub if_semi : Known
  pub if_comma : Known
  pub if_both : Known
  pub if_other : Known

-- nowhere: this is not reached, whatever is pending (apart, so that what is not reached costs nothing to compute with)
pub data By : Type 0 where
  nowhere : By
  these : Five → By

abbrev pub by : Known → Known → Known → Known → Known → By
by e s c b o = these (record { if_empty = e; if_semi = s; if_comma = c; if_both = b; if_other = o })

abbrev pub pick_five : Pend → Five → Known
pick_five empty f = f.if_empty
pick_five semi f = f.if_semi
pick_five comma f = f.if_comma
pick_five both f = f.if_both
pick_five other f = f.if_other

unfoldable pub pick : Pend → By → Known
pick m nowhere = never
pick m (these f) = pick_five m f

abbrev pub every : Known → By
every k = by k k k k k

-- right after a token was taken
abbrev pub cleared : Known → By
cleared k = by k never never never never

unfoldable pub map : (Known → Known) → By → By
map g nowhere = nowhere
map g (these f) = by (g f.if_empty) (g f.if_semi) (g f.if_comma) (g f.if_both) (g f.if_other)

unfoldable pub meet : By → By → By
unfolding ◌∪◌
meet nowhere g = g
meet (these f) nowhere = these f
meet (these f) (these g) = by (f.if_empty ∪ g.if_empty) (f.if_semi ∪ g.if_semi) (f.if_comma ∪ g.if_comma) (f.if_both ∪ g.if_both) (f.if_other ∪ g.if_other)

-- a test of each
abbrev pub each_five : (Known → Bool) → Five → Bool
each_five t f = t f.if_empty && (t f.if_semi && (t f.if_comma && (t f.if_both && t f.if_other)))

unfoldable pub each : (Known → Bool) → By → Bool
each t nowhere = true
each t (these f) = each_five t f

unfoldable pub by_within : By → By → Bool
unfolding within is_never
by_within nowhere g = true
by_within (these f) nowhere = each_five is_never f
by_within (these f) (these g) =
    within f.if_empty g.if_empty
    && (within f.if_semi g.if_semi && (within f.if_comma g.if_comma && (within f.if_both g.if_both && within f.if_other g.if_other)))

-- what is known after a push
abbrev pub five_pushed : Bool → Bool → Five → By
five_pushed true c f = by never f.if_empty never f.if_comma f.if_other
five_pushed false true f = by never never f.if_empty never (f.if_semi ∪ f.if_other)
five_pushed false false f = by never never never never (f.if_empty ∪ (f.if_semi ∪ (f.if_comma ∪ (f.if_both ∪ f.if_other))))

unfoldable pub by_pushed : ℕ → By → By
unfolding ◌∪◌
by_pushed k nowhere = nowhere
by_pushed k (these f) = five_pushed (eqb k K.Semicolon) (eqb k K.Comma) f

-- whether it may be pushed: not a separator that is pending already among separators alone. It is not pushed again
-- (`Once.pushed_once`), so the test of a range (`Run.only_separators`) would go on to say yes, where with the separator
-- twice it says no (crates/pending).
abbrev pub five_may : Bool → Bool → Five → Bool
five_may true c f = is_never f.if_semi && is_never f.if_both
five_may false true f = is_never f.if_comma && is_never f.if_both
five_may false false f = true

unfoldable pub may_push : ℕ → By → Bool
unfolding is_never
may_push k nowhere = true
may_push k (these f) = five_may (eqb k K.Semicolon) (eqb k K.Comma) f

-- ---------------------------------------------------------------- and by what was taken

-- fresh: if no token was taken. took: if one was.
pub record Fact : Type 0 where
  pub fresh : By
  pub took : By

abbrev pub fact : By → By → Fact
fact f t = record { fresh = f; took = t }

abbrev pub unreached : Fact
unreached = fact nowhere nowhere

abbrev pub over : (By → By) → Fact → Fact
over g d = fact (g d.fresh) (g d.took)

infixr 30 ◌⊔◌
abbrev pub ◌⊔◌ : Fact → Fact → Fact
d ⊔ e = fact (meet d.fresh e.fresh) (meet d.took e.took)

unfoldable pub fact_within : Fact → Fact → Bool
unfolding by_within
fact_within d e = by_within d.fresh e.fresh && by_within d.took e.took

unfoldable pub by_never : By → Bool
unfolding by_within
by_never f = by_within f nowhere

unfoldable pub fact_never : Fact → Bool
unfolding by_never
fact_never d = by_never d.fresh && by_never d.took

-- A turn begins where no token was taken, or where one was; in the turn none was taken yet.
abbrev pub if_fresh : Fact → Fact
if_fresh d = fact d.fresh nowhere

abbrev pub if_took : Fact → Fact
if_took d = fact d.took nowhere

-- a token was taken before
abbrev pub taken_before : Fact → Fact
taken_before d = fact nowhere (meet d.fresh d.took)
