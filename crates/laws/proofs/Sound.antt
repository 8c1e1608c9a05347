-- An analysis of programs is sound if its actions are: one induction over programs, loops and chains, for every domain.
use Prim.Native.Nat.{ℕ, zero, suc, ◌<◌}
use native.Mathlib.Nat.{le_refl, not-suc-le-zero}
use native.Mathlib.Omega.{arith}
use mathlib.Core.Path.{◌≡◌, refl, subst}
use mathlib.Core.Bool.{Bool, true, false, ◌&&◌, false≢true, true≢false}
use lib.ListN.{length}
use Rattle.definitions.specs.Prog.{choose, Ans, no, yes, also, again, Rule, Act, Prog, ret, act, ◌⨟◌, case, in_marker, loop, chain, brace, open_call}
use Rattle.definitions.specs.Skeleton.{Label, Skeleton, done, ◌⧺◌}
use Rattle.definitions.specs.Run.{State, Out, mark_of, makes, add, perform, closed, marked, is_again, goes_on, iter, unlinked, by_shape, links, chained, here, exec}
use Rattle.basics.proofs.Tests.{cond-with, and_left, and_right}
use Rattle.laws.proofs.Onward.{Goes, exec_goes}
use Rattle.laws.proofs.Fuel.{goes_on_shorter, turn_of}
use Rattle.laws.proofs.Pieces.{Pieces, linked, closed_pieces, links_pieces}
use Rattle.laws.proofs.Analysis.{Look, get, same, Domain, only, any_of, then_look, either, stopped, settled, look, looks_within}

-- ---------------------------------------------------------------- what facts mean

-- Holds d s₀ s: d holds at s, on the way from s₀. Pre: what is assumed of what was made. Post: what is shown of it.
pub record Meaning (D : Domain) : Type 1 where
  pub Holds : D.Fact → State → State → Type 0
  pub Pre : Skeleton → Type 0
  pub Post : Skeleton → Type 0
  pub pieces : Pieces Pre
  pub post_done : Post done
  pub post_join : (p q : Skeleton) → Post p → Post q → Post (p ⧺ q)
  pub post_closed : (k m m' : ℕ) (a i : Skeleton) → Post a → Post i → Post (closed k m m' a i)
  pub left : (d e : D.Fact) (s₀ s : State) → Holds d s₀ s → Holds (D.join d e) s₀ s
  pub right : (d e : D.Fact) (s₀ s : State) → Holds e s₀ s → Holds (D.join d e) s₀ s
  pub weaken : (d e : D.Fact) (s₀ s : State) → D.within d e ≡ true → Holds d s₀ s → Holds e s₀ s
  pub forget : (d : D.Fact) (s₀ s : State) → Holds d s₀ s → Holds D.unknown s₀ s
  pub unknown_within : (d : D.Fact) → D.within d D.unknown ≡ true

module _ (D : Domain) (M : Meaning D) where
  -- what a look says of a run's result
  abbrev pub Gives : Look D.Fact → State → Out → Type 0
  Gives l s₀ o = M.Pre o.made → M.Post o.made × M.Holds (get l o.ans) s₀ o.state

  abbrev pub Sound : (D.Fact → Look D.Fact) → (State → Out) → Type 0
  Sound f G = (d : D.Fact) (s₀ s : State) → (f d).ok ≡ true → M.Holds d s₀ s → Gives (f d) s₀ (G s)

  -- what is to be shown of a domain: its actions, and how a program is entered
  pub record Acts : Type 0 where
    pub act : (b : Label) (a : Act) → Sound (D.acts a) (perform b a)
    pub enter : (f : D.Fact → Look D.Fact) (G : State → Out) → Sound f G → ((s : State) → Goes s (G s)) → Sound (λ d. D.from d f) G

  in_any : (l : Look D.Fact) (a : Ans) (s₀ s : State) → M.Holds (get l a) s₀ s → M.Holds (any_of D l) s₀ s
  in_any l no s₀ s h = M.left l.if_no _ s₀ s h
  in_any l yes s₀ s h = M.right l.if_no _ s₀ s (M.left l.if_yes _ s₀ s h)
  in_any l also s₀ s h = M.right l.if_no _ s₀ s (M.right l.if_yes _ s₀ s (M.left l.if_also _ s₀ s h))
  in_any l again s₀ s h = M.right l.if_no _ s₀ s (M.right l.if_yes _ s₀ s (M.right l.if_also _ s₀ s h))

  in_then : (l m : Look D.Fact) (a : Ans) (s₀ s : State) → M.Holds (get m a) s₀ s → M.Holds (get (then_look D l m) a) s₀ s
  in_then l m no s₀ s h = h
  in_then l m yes s₀ s h = h
  in_then l m also s₀ s h = h
  in_then l m again s₀ s h = h

  in_first : (l m : Look D.Fact) (a : Ans) (s₀ s : State) → M.Holds (get l a) s₀ s → M.Holds (get (either D l m) a) s₀ s
  in_first l m no s₀ s h = M.left l.if_no m.if_no s₀ s h
  in_first l m yes s₀ s h = M.left l.if_yes m.if_yes s₀ s h
  in_first l m also s₀ s h = M.left l.if_also m.if_also s₀ s h
  in_first l m again s₀ s h = M.left l.if_again m.if_again s₀ s h

  in_second : (l m : Look D.Fact) (a : Ans) (s₀ s : State) → M.Holds (get m a) s₀ s → M.Holds (get (either D l m) a) s₀ s
  in_second l m no s₀ s h = M.right l.if_no m.if_no s₀ s h
  in_second l m yes s₀ s h = M.right l.if_yes m.if_yes s₀ s h
  in_second l m also s₀ s h = M.right l.if_also m.if_also s₀ s h
  in_second l m again s₀ s h = M.right l.if_again m.if_again s₀ s h

  pub in_only : (a : Ans) (d : D.Fact) (s₀ s : State) → M.Holds d s₀ s → M.Holds (get (only D a d) a) s₀ s
  in_only no d s₀ s h = h
  in_only yes d s₀ s h = h
  in_only also d s₀ s h = h
  in_only again d s₀ s h = h

  pub in_same : (b : Bool) (d : D.Fact) (a : Ans) (s₀ s : State) → M.Holds d s₀ s → M.Holds (get (same b d) a) s₀ s
  in_same b d no s₀ s h = h
  in_same b d yes s₀ s h = h
  in_same b d also s₀ s h = h
  in_same b d again s₀ s h = h

  in_stopped : (l : Look D.Fact) (a : Ans) (s₀ s : State) → is_again a ≡ false → M.Holds (get l a) s₀ s → M.Holds (get (stopped D l) a) s₀ s
  unfolding is_again
  in_stopped l no s₀ s e h = h
  in_stopped l yes s₀ s e h = h
  in_stopped l also s₀ s e h = h
  in_stopped l again s₀ s e h = absurd (true≢false e)

  gives_first : (l m : Look D.Fact) (s₀ : State) (o : Out) → Gives l s₀ o → Gives (either D l m) s₀ o
  gives_first l m s₀ o g w = let x : M.Post o.made × M.Holds (get l o.ans) s₀ o.state = g w in (x.0, in_first l m o.ans s₀ o.state x.1)

  gives_second : (l m : Look D.Fact) (s₀ : State) (o : Out) → Gives m s₀ o → Gives (either D l m) s₀ o
  gives_second l m s₀ o g w = let x : M.Post o.made × M.Holds (get m o.ans) s₀ o.state = g w in (x.0, in_second l m o.ans s₀ o.state x.1)

  gives_then : (l m : Look D.Fact) (s₀ : State) (o : Out) → Gives m s₀ o → Gives (then_look D l m) s₀ o
  gives_then l m s₀ o g w = let x : M.Post o.made × M.Holds (get m o.ans) s₀ o.state = g w in (x.0, in_then l m o.ans s₀ o.state x.1)

  -- one run after another
  gives_add : (l m : Look D.Fact) (s₀ : State) (o x : Out) → Gives l s₀ o → (M.Holds (get l o.ans) s₀ o.state → Gives m s₀ x) → Gives (then_look D l m) s₀ (add o x)
  unfolding add
  gives_add l m s₀ o x g k w =
      let c : M.Pre o.made × M.Pre x.made = M.pieces.join o.made x.made w in
      let p : M.Post o.made × M.Holds (get l o.ans) s₀ o.state = g c.0 in
      let q : M.Post x.made × M.Holds (get m x.ans) s₀ x.state = k p.1 c.1 in
      (M.post_join o.made x.made p.0 q.0, in_then l m x.ans s₀ x.state q.1)

  pub weaken_look : (l m : Look D.Fact) → looks_within D l m ≡ true → (s₀ : State) (o : Out) → Gives l s₀ o → Gives m s₀ o
  weaken_look l m e s₀ o g w = let x : M.Post o.made × M.Holds (get l o.ans) s₀ o.state = g w in (x.0, go o.ans x.1)
    where
      facts : (D.within l.if_no m.if_no && (D.within l.if_yes m.if_yes && (D.within l.if_also m.if_also && D.within l.if_again m.if_again))) ≡ true
      facts = and_right l.ok _ e

      later : (D.within l.if_yes m.if_yes && (D.within l.if_also m.if_also && D.within l.if_again m.if_again)) ≡ true
      later = and_right (D.within l.if_no m.if_no) _ (and_right l.ok _ e)

      last : (D.within l.if_also m.if_also && D.within l.if_again m.if_again) ≡ true
      last = and_right (D.within l.if_yes m.if_yes) _ (and_right (D.within l.if_no m.if_no) _ (and_right l.ok _ e))

      go : (a : Ans) → M.Holds (get l a) s₀ o.state → M.Holds (get m a) s₀ o.state
      go no h = M.weaken l.if_no m.if_no s₀ o.state (and_left (D.within l.if_no m.if_no) _ facts) h
      go yes h = M.weaken l.if_yes m.if_yes s₀ o.state (and_left (D.within l.if_yes m.if_yes) _ later) h
      go also h = M.weaken l.if_also m.if_also s₀ o.state (and_left (D.within l.if_also m.if_also) _ last) h
      go again h = M.weaken l.if_again m.if_again s₀ o.state (and_right (D.within l.if_also m.if_also) _ last) h

-- ---------------------------------------------------------------- loops and chains

pub is_again_eq : (a : Ans) → is_again a ≡ true → a ≡ again
unfolding is_again
is_again_eq no e = absurd (false≢true e)
is_again_eq yes e = absurd (false≢true e)
is_again_eq also e = absurd (false≢true e)
is_again_eq again e = refl

module _ (D : Domain) (M : Meaning D) (A : Acts D M) where
  -- what is settled for a loop's head holds before the loop, and after a turn that goes on
  settled_closed : (d : D.Fact) (f : D.Fact → Look D.Fact) → D.within (D.from (settled D d f) f).if_again (settled D d f) ≡ true
  unfolding settled
  settled_closed d f =
      cond-with (λ (i : D.Fact). D.within (D.from i f).if_again i ≡ true) (D.within (D.from (D.join d (D.from d f).if_again) f).if_again (D.join d (D.from d f).if_again))
      (λ e. e) (λ e. M.unknown_within (D.from D.unknown f).if_again)

  settled_start : (d : D.Fact) (f : D.Fact → Look D.Fact) (s₀ s : State) → M.Holds d s₀ s → M.Holds (settled D d f) s₀ s
  unfolding settled
  settled_start d f s₀ s h =
      cond-with (λ (i : D.Fact). M.Holds i s₀ s) (D.within (D.from (D.join d (D.from d f).if_again) f).if_again (D.join d (D.from d f).if_again))
      (λ e. M.left d (D.from d f).if_again s₀ s h) (λ e. M.forget d s₀ s h)

  module _ (i : D.Fact) (f : D.Fact → Look D.Fact) (stable : D.within (D.from i f).if_again i ≡ true) (ok : (D.from i f).ok ≡ true)
      (G : State → Out) (S : Sound D M f G) (goes : (s : State) → Goes s (G s)) where
    -- a turn from the head
    turn_gives : (s₀ s : State) → M.Holds i s₀ s → Gives D M (D.from i f) s₀ (G s)
    turn_gives s₀ s h = A.enter f G S goes i s₀ s ok h

    -- where the loop goes on, the head's fact holds again
    head_again : (s₀ s : State) → goes_on s (G s) ≡ true → M.Holds (get (D.from i f) (G s).ans) s₀ (G s).state → M.Holds i s₀ (G s).state
    unfolding goes_on
    head_again s₀ s e h =
        M.weaken (D.from i f).if_again i s₀ (G s).state stable (subst (λ (a : Ans). M.Holds (get (D.from i f) a) s₀ (G s).state) (is_again_eq (G s).ans (and_left (is_again (G s).ans) _ e)) h)

    iter_gives : (n : ℕ) (s₀ s : State) → length s.rest < n → M.Holds i s₀ s → Gives D M (D.from i f) s₀ (iter n G s)
    unfolding iter makes add
    iter_gives zero s₀ s l h = absurd (not-suc-le-zero l)
    iter_gives (suc n) s₀ s l h =
        cond-with (Gives D M (D.from i f) s₀) (goes_on s (G s)) {x = add (turn_of (G s)) (iter n G (G s).state)} {y = turn_of (G s)}
        (λ e w.
        let c : M.Pre (G s).made × M.Pre (iter n G (G s).state).made = M.pieces.join (G s).made (iter n G (G s).state).made w in
        let p : M.Post (G s).made × M.Holds (get (D.from i f) (G s).ans) s₀ (G s).state = turn_gives s₀ s h c.0 in
        let m : length (G s).state.rest < length s.rest = goes_on_shorter s (G s) e in
        let q : M.Post (iter n G (G s).state).made × M.Holds (get (D.from i f) (iter n G (G s).state).ans) s₀ (iter n G (G s).state).state =
        iter_gives n s₀ (G s).state (omega arith) (head_again s₀ s e p.1) c.1 in
        (M.post_join (G s).made (iter n G (G s).state).made p.0 q.0, q.1))
        (λ e w. turn_gives s₀ s h w)

    -- Chains. a and p, made before, are right if what is assumed of them is met.
    abbrev Fine : Skeleton → Type 0
    Fine a = M.Pre a → M.Post a

    -- the chain's end, with its last marker closed
    end_gives : (s₀ : State) (k m m' : ℕ) (a p : Skeleton) (o : Out) → Fine a → Fine p → Gives D M (D.from i f) s₀ o → M.Pre (closed k m m' a (p ⧺ o.made))
        → M.Post (closed k m m' a (p ⧺ o.made)) × M.Holds (get (D.from i f) o.ans) s₀ o.state
    end_gives s₀ k m m' a p o x y g w =
        let c : M.Pre a × M.Pre p × M.Pre o.made = closed_pieces M.Pre M.pieces k m m' a p o.made w in
        let q : M.Post o.made × M.Holds (get (D.from i f) o.ans) s₀ o.state = g c.2 in
        (M.post_closed k m m' a (p ⧺ o.made) (x c.0) (M.post_join p o.made (y c.1) q.0), q.1)

    shape_gives : (s₀ : State) (k : ℕ) (x y : Out) → Gives D M (D.from i f) s₀ x → Gives D M (D.from i f) s₀ y → Gives D M (D.from i f) s₀ (by_shape k x y)
    unfolding by_shape
    shape_gives s₀ zero x y p q = p
    shape_gives s₀ (suc k) x y p q = q

    links_gives : (n : ℕ) (s₀ s : State) (m : ℕ) (a p : Skeleton) → length s.rest < n → Fine a → Fine p → M.Holds i s₀ s → Gives D M (D.from i f) s₀ (links n G m a p s)
    unfolding links unlinked makes
    links_gives zero s₀ s m a p l x y h = absurd (not-suc-le-zero l)
    links_gives (suc n) s₀ s m a p l x y h =
        let o : Out = G s in
        let m' : ℕ = mark_of (G s).state in
        let node : Skeleton = linked m a p (G s) in
        let whole : M.Pre (linked m a p (G s)) → M.Post (linked m a p (G s)) × M.Holds (get (D.from i f) (G s).ans) s₀ (G s).state =
        end_gives s₀ (G s).shape m m' a p (G s) x y (turn_gives s₀ s h) in
        shape_gives s₀ o.shape _ _ (end_gives s₀ 0 m m' a p o x y (turn_gives s₀ s h))
        (cond-with (Gives D M (D.from i f) s₀) (goes_on s o) {x = links n G m' node done o.state} {y = unlinked m' node done o.ans o.state}
        (λ e w.
        let d : length (G s).state.rest < length s.rest = goes_on_shorter s (G s) e in
        let q : M.Post node × M.Holds (get (D.from i f) (G s).ans) s₀ (G s).state = whole (links_pieces M.Pre M.pieces n G m' node done (G s).state w).0 in
        links_gives n s₀ (G s).state m' node done (omega arith) (λ v. (whole v).0) (λ _. M.post_done) (head_again s₀ s e q.1) w)
        (λ e w.
        let c : M.Pre node × M.Pre done = M.pieces.closing 0 m' m' node done w in
        let q : M.Post node × M.Holds (get (D.from i f) (G s).ans) s₀ (G s).state = whole c.0 in
        (M.post_closed 0 m' m' node done q.0 M.post_done, q.1)))

  -- a chain: o is what its first program gave
  chained_gives : (l : Look D.Fact) (f : D.Fact → Look D.Fact) → (D.from (settled D l.if_again f) f).ok ≡ true → (G : State → Out) → Sound D M f G → ((s : State) → Goes s (G s))
      → (s₀ s : State) (o : Out) → Gives D M l s₀ o → Gives D M (either D (stopped D l) (D.from (settled D l.if_again f) f)) s₀ (chained G s o)
  unfolding chained unlinked makes
  chained_gives l f ok G S goes s₀ s o g =
      let i : D.Fact = settled D l.if_again f in
      cond-with (Gives D M (either D (stopped D l) (D.from (settled D l.if_again f) f)) s₀) (is_again o.ans)
      {x = links (suc (length o.state.rest)) G (mark_of s) done o.made o.state} {y = unlinked (mark_of s) done o.made o.ans o.state}
      (λ e w.
      let n : ℕ = suc (length o.state.rest) in
      let q : M.Post o.made × M.Holds (get l o.ans) s₀ o.state = g (links_pieces M.Pre M.pieces n G (mark_of s) done o.made o.state w).1 in
      let h : M.Holds l.if_again s₀ o.state = subst (λ (a : Ans). M.Holds (get l a) s₀ o.state) (is_again_eq o.ans e) q.1 in
      gives_second D M (stopped D l) (D.from i f) s₀ (links n G (mark_of s) done o.made o.state)
      (links_gives i f (settled_closed l.if_again f) ok G S goes n s₀ o.state (mark_of s) done o.made (le_refl _) (λ _. M.post_done) (λ _. q.0) (settled_start l.if_again f s₀ o.state h))
      w)
      (λ e w.
      let c : M.Pre done × M.Pre o.made = M.pieces.closing 0 (mark_of s) (mark_of o.state) done o.made w in
      let q : M.Post o.made × M.Holds (get l o.ans) s₀ o.state = g c.1 in
      (M.post_closed 0 (mark_of s) (mark_of o.state) done o.made M.post_done q.0, in_first D M (stopped D l) (D.from i f) o.ans s₀ o.state (in_stopped D M l o.ans s₀ o.state e q.1)))

  mark_gives : (l : Look D.Fact) (s₀ s : State) (o : Out) → Gives D M l s₀ o → Gives D M l s₀ (marked s o)
  unfolding marked makes
  mark_gives l s₀ s o g w =
      let c : M.Pre done × M.Pre o.made = M.pieces.closing o.shape (mark_of s) (mark_of o.state) done o.made w in
      let q : M.Post o.made × M.Holds (get l o.ans) s₀ o.state = g c.1 in
      (M.post_closed o.shape (mark_of s) (mark_of o.state) done o.made M.post_done q.0, q.1)

  -- the three ways on from an answer
  module _ (l : Look D.Fact) (n y a : D.Fact → Look D.Fact) (N Y B : State → Out) (p : Sound D M n N) (q : Sound D M y Y) (r : Sound D M a B)
      (P : (s : State) → Goes s (N s)) (Q : (s : State) → Goes s (Y s)) (R : (s : State) → Goes s (B s)) where
    abbrev on_no : Look D.Fact
    on_no = D.from l.if_no n

    abbrev on_yes : Look D.Fact
    on_yes = D.from (D.join l.if_yes l.if_again) y

    abbrev on_also : Look D.Fact
    on_also = D.from l.if_also a

    ways : (x : Ans) (s₀ s : State) → (either D on_no (either D on_yes on_also)).ok ≡ true → M.Holds (get l x) s₀ s → Gives D M (either D on_no (either D on_yes on_also)) s₀ (choose x N Y B s)
    unfolding choose
    ways no s₀ s m h = gives_first D M on_no (either D on_yes on_also) s₀ (N s) (A.enter n N p P l.if_no s₀ s (and_left on_no.ok _ m) h)
    ways yes s₀ s m h =
        gives_second D M on_no (either D on_yes on_also) s₀ (Y s)
        (gives_first D M on_yes on_also s₀ (Y s) (A.enter y Y q Q (D.join l.if_yes l.if_again) s₀ s (and_left on_yes.ok _ (and_right on_no.ok _ m)) (M.left l.if_yes l.if_again s₀ s h)))
    ways also s₀ s m h =
        gives_second D M on_no (either D on_yes on_also) s₀ (B s) (gives_second D M on_yes on_also s₀ (B s) (A.enter a B r R l.if_also s₀ s (and_right on_yes.ok _ (and_right on_no.ok _ m)) h))
    ways again s₀ s m h =
        gives_second D M on_no (either D on_yes on_also) s₀ (Y s)
        (gives_first D M on_yes on_also s₀ (Y s) (A.enter y Y q Q (D.join l.if_yes l.if_again) s₀ s (and_left on_yes.ok _ (and_right on_no.ok _ m)) (M.right l.if_yes l.if_again s₀ s h)))

  -- ---------------------------------------------------------------- every program

  -- AN ANALYSIS IS SOUND for every program, if it is for what the calls do
  module _ (ask : Rule → State → Out) (goes : (r : Rule) (s : State) → Goes s (ask r s)) (t : Rule → D.Fact → Look D.Fact) (calls : (r : Rule) → Sound D M (t r) (ask r)) where
    goes_all : (b : Label) (p : Prog) (s : State) → Goes s (exec ask b p s)
    goes_all b p s = exec_goes ask goes b p s

    pub exec_gives : (b : Label) (p : Prog) → Sound D M (look D t p) (exec ask b p)
    unfolding exec look
    exec_gives b (ret k a) d s₀ s m h w = (M.post_done, in_only D M a d s₀ s h)
    exec_gives b (act a) d s₀ s m h w = A.act b a d s₀ s m h w
    exec_gives b (p ⨟ q) d s₀ s m h w =
        let l : Look D.Fact = look D t p d in
        gives_add D M l (D.from (any_of D l) (look D t q)) s₀ (exec ask b p s) (exec ask b q (exec ask b p s).state) (exec_gives b p d s₀ s (and_left l.ok _ m) h)
        (λ g. A.enter (look D t q) (exec ask b q) (exec_gives b q) (goes_all b q) (any_of D l) s₀ (exec ask b p s).state (and_right l.ok _ m) (in_any D M l (exec ask b p s).ans s₀ (exec ask b p s).state g))
        w
    exec_gives b (case c n y a) d s₀ s m h w =
        let l : Look D.Fact = look D t c d in
        gives_add D M l (either D (D.from l.if_no (look D t n)) (either D (D.from (D.join l.if_yes l.if_again) (look D t y)) (D.from l.if_also (look D t a)))) s₀ (exec ask b c s) (choose (exec ask b c s).ans (exec ask b n) (exec ask b y) (exec ask b a) (exec ask b c s).state) (exec_gives b c d s₀ s (and_left l.ok _ m) h)
        (λ g. ways l (look D t n) (look D t y) (look D t a) (exec ask b n) (exec ask b y) (exec ask b a) (exec_gives b n) (exec_gives b y) (exec_gives b a) (goes_all b n) (goes_all b y) (goes_all b a)
        (exec ask b c s).ans s₀ (exec ask b c s).state (and_right l.ok _ m) g)
        w
    exec_gives b (in_marker p) d s₀ s m h w = mark_gives (look D t p d) s₀ s (exec ask b p s) (exec_gives b p d s₀ s m h) w
    exec_gives b (loop p) d s₀ s m h w =
        iter_gives (settled D d (look D t p)) (look D t p) (settled_closed d (look D t p)) m (exec ask b p) (exec_gives b p) (goes_all b p) (suc (length s.rest)) s₀ s (le_refl _)
        (settled_start d (look D t p) s₀ s h) w
    exec_gives b (chain p q) d s₀ s m h w =
        let l : Look D.Fact = look D t p d in
        gives_then D M l (either D (stopped D l) (D.from (settled D l.if_again (look D t q)) (look D t q))) s₀ (chained (exec ask b q) s (exec ask b p s))
        (chained_gives l (look D t q) (and_right l.ok _ (and_right l.ok _ m)) (exec ask b q) (exec_gives b q) (goes_all b q) s₀ s (exec ask b p s) (exec_gives b p d s₀ s (and_left l.ok _ m) h))
        w
    exec_gives b (brace p) d s₀ s m h w = exec_gives (here s.rest) p d s₀ s m h w
    exec_gives b (open_call r) d s₀ s m h w = calls r d s₀ s m h w
