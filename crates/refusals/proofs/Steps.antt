-- What a run makes and what happens in it, both brought to steps, in which a call that is one too many stands as the
-- definitions mark it, and no other call stands at all. For each action the two are the same.
use Prim.Native.Nat.{ℕ, zero, suc}
use mathlib.Core.Path.{◌≡◌, refl, sym, ap, ◌∙◌}
use mathlib.Core.Bool.{Bool, true, false}
use mathlib.Core.List.{List, [], ◌∷◌, ◌++◌, append_assoc}
use lib.Dec.{leb, eqb}
use lib.ListN.{length}
use Rattle.definitions.specs.TokenKind as K
use Rattle.definitions.specs.Token.{Token, trivia}
use Rattle.definitions.specs.Prog.{Act, silent_at, at_end, immediate, immediate_next, add_expected, bump, bump_name, bump_argument, emit, emit_unclosed, less}
use Rattle.definitions.specs.Skeleton.{Label, Skeleton, done, token, name, node, ignored, report, over, ◌⧺◌}
use Rattle.definitions.specs.Run.{State, Out, peeked, replies, makes, taken, do_bump, do_name, add, at_depth, do_argument, do_emit, do_expected, perform, closed}
use Rattle.definitions.specs.Report.{Push, event, reported, exceeded, pushes}
use Rattle.laws.proofs.Skeleton.{pushes_join, pushes_closed}
use Rattle.basics.proofs.Tests.{cond-all}
use Rattle.refusals.specs.Trace.{Happening, call_opened, event_pushed, report_written, made_by, act_trace}
use Rattle.refusals.specs.Refusals.{MAX_OPEN}

pub data Step : Type 0 where
  an_event : ℕ → Step
  a_row : ℕ → ℕ → Step
  too_many : ℕ → Step

-- a call that is allowed leaves nothing
abbrev pub if_broken : Bool → ℕ → List Step
if_broken true m = []
if_broken false m = too_many m ∷ []

-- the steps of what happens
unfoldable pub told : List Happening → List Step
told [] = []
told (call_opened c m ∷ l) = if_broken (leb c MAX_OPEN) m ++ told l
told (event_pushed m ∷ l) = an_event m ∷ told l
told (report_written c m ∷ l) = a_row c m ∷ told l

-- the steps of what is pushed
unfoldable pub flat : List Push → List Step
flat [] = []
flat (event m ∷ l) = an_event m ∷ flat l
flat (reported r ∷ l) = an_event r.mark ∷ a_row (length r.pool) r.mark ∷ flat l
flat (exceeded m ∷ l) = too_many m ∷ flat l

pub told_append : (l m : List Happening) → told (l ++ m) ≡ told l ++ told m
unfolding told
told_append [] m = refl
told_append (call_opened c x ∷ l) m = ap (if_broken (leb c MAX_OPEN) x ++◌) (told_append l m) ∙ sym (append_assoc (if_broken (leb c MAX_OPEN) x) (told l) (told m))
told_append (event_pushed x ∷ l) m = ap (an_event x ∷◌) (told_append l m)
told_append (report_written c x ∷ l) m = ap (a_row c x ∷◌) (told_append l m)

flat_append : (l m : List Push) → flat (l ++ m) ≡ flat l ++ flat m
unfolding flat
flat_append [] m = refl
flat_append (event x ∷ l) m = ap (an_event x ∷◌) (flat_append l m)
flat_append (reported r ∷ l) m = ap (λ (z : List Step). an_event r.mark ∷ a_row (length r.pool) r.mark ∷ z) (flat_append l m)
flat_append (exceeded x ∷ l) m = ap (too_many x ∷◌) (flat_append l m)

abbrev pub steps : Skeleton → List Step
steps p = flat (pushes p)

pub steps_join : (p q : Skeleton) → steps (p ⧺ q) ≡ steps p ++ steps q
steps_join p q = ap flat (pushes_join p q) ∙ flat_append (pushes p) (pushes q)

pub steps_closed : (k m m' : ℕ) (a i : Skeleton) → steps (closed k m m' a i) ≡ steps a ++ (an_event m ∷ (steps i ++ (an_event m' ∷ [])))
unfolding flat
steps_closed k m m' a i =
    ap flat (pushes_closed k m m' a i) ∙ flat_append (pushes a) (event m ∷ (pushes i ++ (event m' ∷ [])))
    ∙ ap (λ (z : List Step). steps a ++ (an_event m ∷ z)) (flat_append (pushes i) (event m' ∷ []))

-- ---------------------------------------------------------------- actions

-- tokens, names and reports alone
abbrev Plain : Skeleton → Type 0
Plain done = Unit {0}
Plain (token t m o) = Plain o
Plain (name ts m o) = Plain o
Plain (node k m m' a i o) = ⊥
Plain (ignored m m' a i o) = ⊥
Plain (report r o) = Plain o
Plain (over m o) = ⊥

plain_told : (p : Skeleton) → Plain p → steps p ≡ told (made_by p)
unfolding pushes flat told made_by
plain_told done h = refl
plain_told (token t m o) h = ap (an_event m ∷◌) (plain_told o h)
plain_told (name ts m o) h = ap (an_event m ∷◌) (plain_told o h)
plain_told (node k m m' a i o) h = absurd h
plain_told (ignored m m' a i o) h = absurd h
plain_told (report r o) h = ap (λ (z : List Step). an_event r.mark ∷ a_row (length r.pool) r.mark ∷ z) (plain_told o h)
plain_told (over m o) h = absurd h

bump_plain : (s : State) (l : List Token) → Plain (do_bump s l).made
unfolding do_bump replies makes
bump_plain s [] = tt
bump_plain s (t ∷ ts) = tt

name_plain : (ks : List ℕ) (s : State) (l : List Token) → Plain (do_name ks s l).made
unfolding do_name replies makes
name_plain ks s [] = tt
name_plain ks s (t ∷ ts) = tt

abbrev PlainOut : Out → Type 0
PlainOut o = Plain o.made

depth_plain : (n : ℕ) (o : Out) (f : ℕ → Out) → PlainOut o → ((m : ℕ) → PlainOut (f m)) → PlainOut (at_depth n o f)
unfolding at_depth
depth_plain zero o f p q = p
depth_plain (suc n) o f p q = q n

argument_plain : (n : ℕ) (s : State) (ts : List Token) → PlainOut (do_argument n s ts)
unfolding do_argument replies makes add ◌⧺◌
argument_plain n s [] = tt
argument_plain n s (t ∷ ts) =
    cond-all PlainOut (trivia t) (argument_plain n s ts)
    (cond-all PlainOut (eqb t.kind K.LParen) (argument_plain (suc n) (taken ts) ts)
    (cond-all PlainOut (eqb t.kind K.RParen) (depth_plain n _ _ tt (λ m. argument_plain m (taken ts) ts))
    (cond-all PlainOut (eqb t.kind K.Comma) (depth_plain n _ _ tt (λ m. argument_plain (suc m) (taken ts) ts)) (argument_plain n (taken ts) ts))))

pub act_told : (b : Label) (a : Act) (s : State) → steps (perform b a s).made ≡ told (act_trace b a s)
unfolding perform act_trace replies makes do_expected do_emit pushes flat told made_by
act_told b (silent_at ks) s = refl
act_told b at_end s = refl
act_told b (immediate k) s = refl
act_told b (immediate_next k) s = refl
act_told b (add_expected k) s = refl
act_told b bump s = plain_told (do_bump (peeked s) (peeked s).rest).made (bump_plain (peeked s) (peeked s).rest)
act_told b (bump_name ks) s = plain_told (do_name ks (peeked s) (peeked s).rest).made (name_plain ks (peeked s) (peeked s).rest)
act_told b bump_argument s = plain_told (do_argument 0 s s.rest).made (argument_plain 0 s s.rest)
act_told b (emit m h) s = refl
act_told b emit_unclosed s = refl
act_told b (less m n) s = refl
