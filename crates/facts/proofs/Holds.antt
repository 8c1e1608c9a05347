-- What the facts mean, and that they stay right after a join and a weakening.
use Prim.Native.Nat.{ℕ, ◌≤◌, ◌<◌}
use native.Mathlib.Nat.{le_trans, le_refl}
use mathlib.Core.Path.{◌≡◌, refl, sym, subst, ◌∙◌}
use mathlib.Core.Bool.{Bool, true, false, cond, ◌&&◌, false≢true}
use mathlib.Core.List.{List}
use lib.Dec.{eqb}
use lib.ListN.{length}
use Rattle.definitions.specs.TokenKind as K
use Rattle.definitions.specs.Token.{Token, drop_trivia}
use Rattle.definitions.specs.Run.{State, mark_of}
use Rattle.basics.proofs.Tests.{and_left, and_right}
use Rattle.facts.proofs.Known.{Known, never, within, kinds_within, inside, is_never, knows}
use Rattle.facts.proofs.Knowing.{never_knows, knows_left, knows_right, knows_weaken}
use Rattle.facts.proofs.Facts.{Pend, empty, semi, comma, both, other, push_semi, push_comma, push, pend_from, Five, By, nowhere, these, pick_five, pick, map, meet, each_five, each, by_within, five_pushed, by_pushed, five_may, may_push, Fact, unreached, ◌⊔◌, fact_within, by_never, fact_never, if_fresh, if_took, taken_before}

-- ---------------------------------------------------------------- by what is pending

-- what is known of the tokens l, where m is pending
abbrev pub Told : Pend → By → List Token → Type 0
Told m f l = knows (pick m f) l ≡ true

-- what is known of a token that is never there
pub not_never : (l : List Token) → {A : Type 0} → knows never l ≡ true → A
not_never l h = absurd (false≢true (sym (never_knows l) ∙ h))

five_left : (m : Pend) (f g : Five) (l : List Token) → knows (pick_five m f) l ≡ true → Told m (meet (these f) (these g)) l
unfolding pick meet
five_left empty f g l h = knows_left f.if_empty g.if_empty l h
five_left semi f g l h = knows_left f.if_semi g.if_semi l h
five_left comma f g l h = knows_left f.if_comma g.if_comma l h
five_left both f g l h = knows_left f.if_both g.if_both l h
five_left other f g l h = knows_left f.if_other g.if_other l h

five_right : (m : Pend) (f g : Five) (l : List Token) → knows (pick_five m g) l ≡ true → Told m (meet (these f) (these g)) l
unfolding pick meet
five_right empty f g l h = knows_right f.if_empty g.if_empty l h
five_right semi f g l h = knows_right f.if_semi g.if_semi l h
five_right comma f g l h = knows_right f.if_comma g.if_comma l h
five_right both f g l h = knows_right f.if_both g.if_both l h
five_right other f g l h = knows_right f.if_other g.if_other l h

pub told_left : (m : Pend) (f g : By) (l : List Token) → Told m f l → Told m (meet f g) l
unfolding pick meet
told_left m nowhere g l h = not_never l h
told_left m (these f) nowhere l h = h
told_left m (these f) (these g) l h = five_left m f g l h

pub told_right : (m : Pend) (f g : By) (l : List Token) → Told m g l → Told m (meet f g) l
unfolding pick meet
told_right m nowhere g l h = h
told_right m (these f) nowhere l h = not_never l h
told_right m (these f) (these g) l h = five_right m f g l h

-- what is done to each
five_map : (m : Pend) (g : Known → Known) (f : Five) (l l' : List Token) → ((k : Known) → knows k l ≡ true → knows (g k) l' ≡ true) → knows (pick_five m f) l ≡ true → Told m (map g (these f)) l'
unfolding pick map
five_map empty g f l l' k h = k f.if_empty h
five_map semi g f l l' k h = k f.if_semi h
five_map comma g f l l' k h = k f.if_comma h
five_map both g f l l' k h = k f.if_both h
five_map other g f l l' k h = k f.if_other h

pub told_map : (m : Pend) (g : Known → Known) (f : By) (l l' : List Token) → ((k : Known) → knows k l ≡ true → knows (g k) l' ≡ true) → Told m f l → Told m (map g f) l'
unfolding pick map
told_map m g nowhere l l' k h = not_never l h
told_map m g (these f) l l' k h = five_map m g f l l' k h

-- a test that each of them passes
five_each : (m : Pend) (t : Known → Bool) (f : Five) → each_five t f ≡ true → t (pick_five m f) ≡ true
five_each empty t f e = and_left (t f.if_empty) _ e
five_each semi t f e = and_left (t f.if_semi) _ (and_right (t f.if_empty) _ e)
five_each comma t f e = and_left (t f.if_comma) _ (and_right (t f.if_semi) _ (and_right (t f.if_empty) _ e))
five_each both t f e = and_left (t f.if_both) _ (and_right (t f.if_comma) _ (and_right (t f.if_semi) _ (and_right (t f.if_empty) _ e)))
five_each other t f e = and_right (t f.if_both) _ (and_right (t f.if_comma) _ (and_right (t f.if_semi) _ (and_right (t f.if_empty) _ e)))

pub told_each : (m : Pend) (t : Known → Bool) (f : By) → t never ≡ true → each t f ≡ true → t (pick m f) ≡ true
unfolding pick each
told_each m t nowhere n e = n
told_each m t (these f) n e = five_each m t f e

five_within : (m : Pend) (f g : Five) → by_within (these f) (these g) ≡ true → within (pick_five m f) (pick_five m g) ≡ true
unfolding by_within within kinds_within inside
five_within empty f g e = and_left (within f.if_empty g.if_empty) _ e
five_within semi f g e = and_left (within f.if_semi g.if_semi) _ (and_right (within f.if_empty g.if_empty) _ e)
five_within comma f g e = and_left (within f.if_comma g.if_comma) _ (and_right (within f.if_semi g.if_semi) _ (and_right (within f.if_empty g.if_empty) _ e))
five_within both f g e =
    and_left (within f.if_both g.if_both) _
    (and_right (within f.if_comma g.if_comma) _ (and_right (within f.if_semi g.if_semi) _ (and_right (within f.if_empty g.if_empty) _ e)))
five_within other f g e =
    and_right (within f.if_both g.if_both) _
    (and_right (within f.if_comma g.if_comma) _ (and_right (within f.if_semi g.if_semi) _ (and_right (within f.if_empty g.if_empty) _ e)))

-- what is ruled out
pub ruled_out : (d : Known) (l : List Token) → {A : Type 0} → is_never d ≡ true → knows d l ≡ true → A
unfolding is_never
ruled_out d l e h = not_never l (knows_weaken d never l e h)

pub told_weaken : (m : Pend) (f g : By) (l : List Token) → by_within f g ≡ true → Told m f l → Told m g l
unfolding pick by_within
told_weaken m nowhere g l e h = not_never l h
told_weaken m (these f) nowhere l e h = ruled_out (pick_five m f) l (five_each m is_never f e) h
told_weaken m (these f) (these g) l e h = knows_weaken (pick_five m f) (pick_five m g) l (five_within m f g e) h

-- nothing is known to be nowhere
pub told_nowhere : (m : Pend) (l : List Token) → {A : Type 0} → Told m nowhere l → A
unfolding pick
told_nowhere m l h = not_never l h

-- ---------------------------------------------------------------- an expectation more

pushed_semi : (m : Pend) (f : Five) (l : List Token) → (is_never f.if_semi && is_never f.if_both) ≡ true → knows (pick_five m f) l ≡ true
    → Told (push_semi m) (five_pushed true false f) l
unfolding pick push_semi
pushed_semi empty f l e h = h
pushed_semi semi f l e h = ruled_out f.if_semi l (and_left (is_never f.if_semi) _ e) h
pushed_semi comma f l e h = h
pushed_semi both f l e h = ruled_out f.if_both l (and_right (is_never f.if_semi) _ e) h
pushed_semi other f l e h = h

pushed_comma : (m : Pend) (f : Five) (l : List Token) → (is_never f.if_comma && is_never f.if_both) ≡ true → knows (pick_five m f) l ≡ true
    → Told (push_comma m) (five_pushed false true f) l
unfolding pick push_comma
pushed_comma empty f l e h = h
pushed_comma semi f l e h = knows_left f.if_semi f.if_other l h
pushed_comma comma f l e h = ruled_out f.if_comma l (and_left (is_never f.if_comma) _ e) h
pushed_comma both f l e h = ruled_out f.if_both l (and_right (is_never f.if_comma) _ e) h
pushed_comma other f l e h = knows_right f.if_semi f.if_other l h

pushed_else : (m : Pend) (f : Five) (l : List Token) → knows (pick_five m f) l ≡ true → Told other (five_pushed false false f) l
unfolding pick
pushed_else empty f l h = knows_left f.if_empty _ l h
pushed_else semi f l h = knows_right f.if_empty _ l (knows_left f.if_semi _ l h)
pushed_else comma f l h = knows_right f.if_empty _ l (knows_right f.if_semi _ l (knows_left f.if_comma _ l h))
pushed_else both f l h = knows_right f.if_empty _ l (knows_right f.if_semi _ l (knows_right f.if_comma _ l (knows_left f.if_both _ l h)))
pushed_else other f l h = knows_right f.if_empty _ l (knows_right f.if_semi _ l (knows_right f.if_comma _ l (knows_right f.if_both _ l h)))

pub told_pushed : (k : ℕ) (m : Pend) (f : By) (l : List Token) → may_push k f ≡ true → Told m f l → Told (push k m) (by_pushed k f) l
unfolding pick push by_pushed may_push
told_pushed k m nowhere l e h = not_never l h
told_pushed k m (these f) l e h = go (eqb k K.Semicolon) (eqb k K.Comma) e
  where
    go : (a b : Bool) → five_may a b f ≡ true → Told (cond a (push_semi m) (cond b (push_comma m) other)) (five_pushed a b f) l
    go true b i = pushed_semi m f l i h
    go false true i = pushed_comma m f l i h
    go false false i = pushed_else m f l h

-- ---------------------------------------------------------------- at a state

pub record Right (f : By) (s : State) : Type 0 where
  pub told : Told (pend_from empty s.pending) f (drop_trivia s.rest)

-- on the way from s₀ to s no token was taken, or one was: fewer are left after it than stood at the cursor
pub data Way (d : Fact) (s₀ s : State) : Type 0 where
  fresh_way : mark_of s ≡ mark_of s₀ → Right d.fresh s → Way d s₀ s
  took_way : mark_of s < length s₀.rest → Right d.took s → Way d s₀ s

-- d holds at s, on the way from s₀
pub record Holds (d : Fact) (s₀ s : State) : Type 0 where
  pub within : length s.rest ≤ mark_of s
  pub below : length s.rest ≤ length s₀.rest
  pub way : Way d s₀ s

pub right_left : (f g : By) (s : State) → Right f s → Right (meet f g) s
right_left f g s h = record { told = told_left (pend_from empty s.pending) f g (drop_trivia s.rest) h.told }

pub right_right : (f g : By) (s : State) → Right g s → Right (meet f g) s
right_right f g s h = record { told = told_right (pend_from empty s.pending) f g (drop_trivia s.rest) h.told }

pub right_weaken : (f g : By) (s : State) → by_within f g ≡ true → Right f s → Right g s
right_weaken f g s e h = record { told = told_weaken (pend_from empty s.pending) f g (drop_trivia s.rest) e h.told }

pub right_nowhere : (s : State) → {A : Type 0} → Right nowhere s → A
right_nowhere s h = told_nowhere (pend_from empty s.pending) (drop_trivia s.rest) h.told

-- another way to the same state
pub holds_by : (d e : Fact) (s₀ s : State) → (Right d.fresh s → Right e.fresh s) → (Right d.took s → Right e.took s) → Holds d s₀ s → Holds e s₀ s
holds_by d e s₀ s p q h = record { within = h.within; below = h.below; way = go h.way }
  where
    go : Way d s₀ s → Way e s₀ s
    go (fresh_way m r) = fresh_way m (p r)
    go (took_way m r) = took_way m (q r)

pub holds_left : (d e : Fact) (s₀ s : State) → Holds d s₀ s → Holds (d ⊔ e) s₀ s
holds_left d e s₀ s h = holds_by d (d ⊔ e) s₀ s (right_left d.fresh e.fresh s) (right_left d.took e.took s) h

pub holds_right : (d e : Fact) (s₀ s : State) → Holds e s₀ s → Holds (d ⊔ e) s₀ s
holds_right d e s₀ s h = holds_by e (d ⊔ e) s₀ s (right_right d.fresh e.fresh s) (right_right d.took e.took s) h

pub holds_weaken : (d e : Fact) (s₀ s : State) → fact_within d e ≡ true → Holds d s₀ s → Holds e s₀ s
unfolding fact_within
holds_weaken d e s₀ s w h =
    holds_by d e s₀ s (right_weaken d.fresh e.fresh s (and_left (by_within d.fresh e.fresh) _ w))
    (right_weaken d.took e.took s (and_right (by_within d.fresh e.fresh) _ w)) h

-- a place that is not reached
pub holds_unreached : (s₀ s : State) → {A : Type 0} → Holds unreached s₀ s → A
holds_unreached s₀ s {A} h = go h.way
  where
    go : Way unreached s₀ s → A
    go (fresh_way m r) = right_nowhere s r
    go (took_way m r) = right_nowhere s r

pub holds_never : (d : Fact) (s₀ s : State) → {A : Type 0} → fact_never d ≡ true → Holds d s₀ s → A
unfolding fact_never by_never fact_within
holds_never d s₀ s e h = holds_unreached s₀ s (holds_weaken d unreached s₀ s e h)

-- -------------------------------------------------------------- a turn, or a call, that begins at s on the way from s₀

-- where no token was taken
pub begins_fresh : (d : Fact) (s : State) → length s.rest ≤ mark_of s → Right d.fresh s → Holds (if_fresh d) s s
begins_fresh d s w r = record { within = w; below = le_refl _; way = fresh_way refl r }

pub ends_fresh : (d : Fact) (s₀ s u : State) → mark_of s ≡ mark_of s₀ → length s.rest ≤ length s₀.rest → Holds d s u → Holds d s₀ u
ends_fresh d s₀ s u m b h = record { within = h.within; below = le_trans h.below b; way = go h.way }
  where
    go : Way d s u → Way d s₀ u
    go (fresh_way i r) = fresh_way (i ∙ m) r
    go (took_way i r) = took_way (le_trans i b) r

-- where one was
pub begins_took : (d : Fact) (s : State) → length s.rest ≤ mark_of s → Right d.took s → Holds (if_took d) s s
begins_took d s w r = record { within = w; below = le_refl _; way = fresh_way refl r }

pub ends_took : (d : Fact) (s₀ s u : State) → mark_of s < length s₀.rest → length s.rest ≤ length s₀.rest → Holds d s u → Holds (taken_before d) s₀ u
ends_took d s₀ s u m b h = record { within = h.within; below = le_trans h.below b; way = go h.way }
  where
    go : Way d s u → Way (taken_before d) s₀ u
    go (fresh_way i r) = took_way (subst (λ (x : ℕ). x < length s₀.rest) (sym i) m) (right_left d.fresh d.took u r)
    go (took_way i r) = took_way (le_trans i b) (right_right d.fresh d.took u r)
