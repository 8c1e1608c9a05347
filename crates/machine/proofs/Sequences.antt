-- One walk after another, and choices between walks.
use mathlib.Core.Path.{sym, subst}
use mathlib.Core.List.{List}
use Rattle.definitions.specs.Token.{Token}
use Rattle.definitions.specs.Skeleton.{Skeleton, ◌⧺◌}
use Rattle.definitions.specs.Refusal.{Refusal}
use Rattle.definitions.specs.Prog.{choose, Ans, no, yes, also, again}
use Rattle.definitions.specs.Run.{State, Out, add}
use Rattle.definitions.specs.Report.{pushes}
use Rattle.laws.proofs.Skeleton.{pushes_join}
use Rattle.machine.specs.Machine.{Machine}
use Rattle.machine.specs.Walk.{Walked}
use Rattle.machine.specs.Outcome.{Refused}
use Rattle.machine.proofs.Image.{Ground, Inside}
use Rattle.machine.proofs.Sticky.{Sticks}
use Rattle.machine.proofs.Meets.{Sofar, Fitting, stand, Meets, grow, grow_join, Sim, Tracks, Begins, begins_after, meets_then}

-- what is pushed first stays first
pub begins_join : (p q : Skeleton) → Begins (pushes p) (pushes (p ⧺ q))
begins_join p q = record { more = pushes q; joins = sym (pushes_join p q) }

-- h: what the machine does after the walk w
pub seq_with : (g : Ground) (c : Sofar) (o o' : Out) (w : Walked) (h : Walked → Walked) → Sim g c o w
    → (Fitting g (grow c o.made) → Inside g o.state → Sim g (grow c o.made) o' (h (record { ans = o.ans; shape = o.shape; on = stand g (grow c o.made) o.state })))
    → ((r : Refusal) → Refused g.tokens r w.on → Refused g.tokens r (h w).on)
    → Sim g c (add o o') (h w)
unfolding add
seq_with g c o o' w h m k n =
    let c₁ = grow c o.made in
    let c₂ = grow c (o.made ⧺ o'.made) in
    meets_then g c₁ c₂ o.ans o'.ans o.shape o'.shape o.state o'.state w (h w)
    (begins_after c.pushed (pushes o.made) (pushes (o.made ⧺ o'.made)) (begins_join o.made o'.made))
    m
    (λ f i e. subst (λ (v : Walked). Meets g c₂ o'.ans o'.shape o'.state (h v)) (sym e)
    (subst (λ (x : Sofar). Meets g x o'.ans o'.shape o'.state (h (record { ans = o.ans; shape = o.shape; on = stand g c₁ o.state }))) (grow_join c o.made o'.made) (k f i)))
    n

pub seq_sim : (g : Ground) (c : Sofar) (o : Out) (w : Walked) (f : State → Out) (h : Machine → Walked) → Sim g c o w → Tracks g f h → Sticks g.tokens h → Sim g c (add o (f o.state)) (h w.on)
seq_sim g c o w f h m t k = seq_with g c o (f o.state) w (λ v. h v.on) m (t (grow c o.made) o.state) (λ r q. k r w.on q)

choose_tracks : (g : Ground) (a : Ans) (n y z : State → Out) (n' y' z' : Machine → Walked) → Tracks g n n' → Tracks g y y' → Tracks g z z' → Tracks g (choose a n y z) (choose a n' y' z')
unfolding choose
choose_tracks g no n y z n' y' z' p q r = p
choose_tracks g yes n y z n' y' z' p q r = q
choose_tracks g also n y z n' y' z' p q r = r
choose_tracks g again n y z n' y' z' p q r = q

choose_sticks : (ts : List Token) (a : Ans) (n y z : Machine → Walked) → Sticks ts n → Sticks ts y → Sticks ts z → Sticks ts (choose a n y z)
unfolding choose
choose_sticks ts no n y z p q r = p
choose_sticks ts yes n y z p q r = q
choose_sticks ts also n y z p q r = r
choose_sticks ts again n y z p q r = q

pub case_sim : (g : Ground) (c : Sofar) (o : Out) (w : Walked) (n y z : State → Out) (n' y' z' : Machine → Walked) → Sim g c o w
    → Tracks g n n' → Tracks g y y' → Tracks g z z' → Sticks g.tokens n' → Sticks g.tokens y' → Sticks g.tokens z'
    → Sim g c (add o (choose o.ans n y z o.state)) (choose w.ans n' y' z' w.on)
case_sim g c o w n y z n' y' z' m p q r p' q' r' =
    seq_with g c o (choose o.ans n y z o.state) w (λ v. choose v.ans n' y' z' v.on) m
    (choose_tracks g o.ans n y z n' y' z' p q r (grow c o.made) o.state)
    (λ x h. choose_sticks g.tokens w.ans n' y' z' p' q' r' x w.on h)
