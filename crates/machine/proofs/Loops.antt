-- Loops.
use Prim.Native.Nat.{ℕ, zero, suc}
use mathlib.Core.Path.{◌≡◌, refl, sym, ap, ◌∙◌, subst}
use mathlib.Core.Bool.{Bool, true, false, cond, ◌&&◌}
use mathlib.Core.List.{List, []}
use lib.Dec.{ltb}
use lib.ListN.{length}
use Rattle.definitions.specs.Prog.{again}
use Rattle.definitions.specs.Run.{State, Out, replies, makes, add, is_again, goes_on, iter}
use Rattle.definitions.specs.Report.{pushes, reports}
use Rattle.machine.specs.Machine.{Machine, rest}
use Rattle.machine.specs.Walk.{Walked, said}
use Rattle.machine.specs.Walk as W
use Rattle.machine.proofs.Image.{Ground, Inside, rest_is}
use Rattle.machine.proofs.Sticky.{Sticks, either, s_iter}
use Rattle.machine.proofs.Meets.{Sofar, Fitting, stand, Meets, goes, grow, grow_join, Sim, Tracks, Begins, begins_after, meets_then}
use Rattle.machine.proofs.Taking.{quiet}
use Rattle.machine.proofs.Sequences.{begins_join}

-- as many tokens left
pub left_is : (g : Ground) (c : Sofar) (s : State) → Inside g s → length (rest g.tokens (stand g c s)) ≡ length s.rest
left_is g c s i = ap length (rest_is g c.numbers (reports c.pushed) s i)

-- both go on, or neither
pub goes_on_is : (g : Ground) (c c' : Sofar) (s : State) (o : Out) → Inside g s → Inside g o.state
    → W.goes_on g.tokens (stand g c s) (record { ans = o.ans; shape = o.shape; on = stand g c' o.state }) ≡ goes_on s o
unfolding goes_on W.goes_on
goes_on_is g c c' s o i j =
    ap (λ (n : ℕ). is_again o.ans && ltb n (length (rest g.tokens (stand g c s)))) (left_is g c' o.state j)
    ∙ ap (λ (n : ℕ). is_again o.ans && ltb (length o.state.rest) n) (left_is g c s i)

-- a turn, and the turns after it if it goes on
abbrev with_more : Bool → Out → Out → Out
with_more b o more = cond b (add (makes o.ans o.made o.state) more) (makes o.ans o.made o.state)

begins_more : (b : Bool) (o more : Out) → Begins (pushes o.made) (pushes (with_more b o more).made)
unfolding add makes pushes
begins_more true o more = begins_join o.made more.made
begins_more false o more = record { more = []; joins = mathlib.Core.List.append-nil (pushes o.made) }

module _ (g : Ground) (f : State → Out) (h : Machine → Walked) (t : Tracks g f h) (st : Sticks g.tokens h) where
  -- after a turn that was not refused
  turned : (n : ℕ) → Tracks g (iter n f) (W.iter g.tokens n h) → (c : Sofar) (o : Out) (b : Bool) → Fitting g (grow c o.made) → Inside g o.state
      → Sim g c (with_more b o (iter n f o.state)) (cond b (W.iter g.tokens n h (stand g (grow c o.made) o.state)) (said o.ans (stand g (grow c o.made) o.state)))
  unfolding add makes
  turned n more c o true fit i =
      let u = iter n f o.state in
      subst (λ (x : Sofar). Meets g x u.ans u.shape u.state (W.iter g.tokens n h (stand g (grow c o.made) o.state))) (grow_join c o.made u.made) (more (grow c o.made) o.state fit i)
  turned n more c o false fit i = goes fit i refl

  pub iter_sim : (n : ℕ) → Tracks g (iter n f) (W.iter g.tokens n h)
  unfolding iter W.iter replies
  iter_sim zero c s fit i = quiet g c again 0 s _ fit i refl
  iter_sim (suc n) c s fit i =
      let ts = g.tokens in
      let M = stand g c s in
      let o = f s in
      let w = h M in
      let u = iter n f o.state in
      let b = goes_on s o in
      let D = with_more b o u in
      let end = grow c D.made in
      let out : Bool → Walked → Walked = λ x v. cond x (W.iter ts n h v.on) (said v.ans v.on) in
      meets_then g (grow c o.made) end o.ans D.ans o.shape D.shape o.state D.state w (out (W.goes_on ts M w) w)
      (begins_after c.pushed (pushes o.made) (pushes D.made) (begins_more b o u))
      (t c s fit i)
      (λ fit₁ i₁ e. subst (λ (v : Walked). Meets g end D.ans D.shape D.state (out (W.goes_on ts M v) v)) (sym e)
      (subst (λ (x : Bool). Meets g end D.ans D.shape D.state (out x (record { ans = o.ans; shape = o.shape; on = stand g (grow c o.made) o.state }))) (sym (goes_on_is g c (grow c o.made) s o i i₁))
      (turned n (iter_sim n) c o b fit₁ i₁)))
      (λ r q. either ts r (W.goes_on ts M w) (W.iter ts n h w.on) (said w.ans w.on) (s_iter ts r n h (st r) w.on q) q)

  pub loop_sim : Tracks g (λ s. iter (suc (length s.rest)) f s) (λ m. W.iter g.tokens (suc (length (rest g.tokens m))) h m)
  loop_sim c s fit i =
      subst (λ (n : ℕ). Sim g c (iter (suc (length s.rest)) f s) (W.iter g.tokens (suc n) h (stand g c s))) (sym (left_is g c s i)) (iter_sim (suc (length s.rest)) c s fit i)
