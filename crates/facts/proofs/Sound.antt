-- THE ANALYSIS IS SOUND: one induction over programs, and one over the open calls that are allowed.
use Prim.Native.Nat.{ℕ, zero, suc}
use native.Mathlib.Nat.{le_refl}
use mathlib.Core.Path.{◌≡◌, refl, subst}
use mathlib.Core.Bool.{Bool, true, false, cond, ◌&&◌}
use mathlib.Core.List.{List, [], ◌∷◌, ◌++◌}
use lib.ListN.{length}
use Rattle.definitions.specs.Layout.{MOST_OPEN_CALLS}
use Rattle.definitions.specs.Token.{Token, drop_trivia}
use Rattle.definitions.specs.Prog.{choose, Ans, no, yes, also, again, Rule, Prog, ret, act, ◌⨟◌, case, in_marker, loop, chain, brace, open_call}
use Rattle.definitions.specs.Grammar.{grammar, Entry, whole}
use Rattle.definitions.specs.Skeleton.{Label, no_label, Skeleton, done}
use Rattle.definitions.specs.Run.{State, Out, mark_of, makes, add, taken, perform, marked, is_again, iter, unlinked, links, chained, here, exec, run}
use Rattle.basics.proofs.Tests.{and_left, and_right}
use Rattle.laws.proofs.Sound.{is_again_eq}
use Rattle.run_steps.specs.Steps.{Step, branched, EveryStep, iter_steps, links_steps, steps, run_steps, entry_steps}
use Rattle.facts.proofs.Facts.{Fact, pend_from, pick, fact_within, fact_never}
use Rattle.facts.proofs.May.{may_act, may_begin}
use Rattle.facts.proofs.Look.{Look, get, only, any_of, and_ok, either, unshaped, stopped, act_look, from, turns, joined, again_of, left_over, moves, settled, looped, look, looks_within}
use Rattle.facts.proofs.Table.{calls_in, calls_out, wide_in, wide_out, calls_by, calls, table, calls_hold, wide_holds, start, whole_looks}
use Rattle.facts.proofs.Holds.{fresh_way, Holds, holds_left, holds_weaken, holds_never}
use Rattle.facts.proofs.Acts.{nothing_knows, act_holds}
use Rattle.facts.proofs.Looks.{in_only, in_and, in_first, in_second, in_any, in_again, in_unshaped, in_stopped, in_weaken}
use Rattle.facts.proofs.Good.{Good, Free, each_append, free_append, Gives, Sound, gives_by, gives_begun, gives_add}
use Rattle.facts.proofs.Turns.{from_sound, joined_sound, iter_gives, links_gives}

-- ---------------------------------------------------------------- pieces of programs

gives_and : (b : Bool) (l : Look) (s₀ : State) (o : Out) (ss : List Step) → Gives l s₀ o ss → Gives (and_ok b l) s₀ o ss
gives_and b l s₀ o ss g = gives_by l (and_ok b l) s₀ o ss (in_and s₀ o.state b l o.ans o.shape) g

gives_first : (l m : Look) (s₀ : State) (o : Out) (ss : List Step) → Gives l s₀ o ss → Gives (either l m) s₀ o ss
gives_first l m s₀ o ss g = gives_by l (either l m) s₀ o ss (in_first s₀ o.state l m o.ans o.shape) g

gives_second : (l m : Look) (s₀ : State) (o : Out) (ss : List Step) → Gives m s₀ o ss → Gives (either l m) s₀ o ss
gives_second l m s₀ o ss g = gives_by m (either l m) s₀ o ss (in_second s₀ o.state l m o.ans o.shape) g

gives_marked : (l : Look) (s₀ s : State) (o : Out) (ss : List Step) → Gives l s₀ o ss → Gives (unshaped l) s₀ (marked s o) ss
unfolding marked makes
gives_marked l s₀ s o ss g = record { each = g.each; facts = λ f. in_unshaped s₀ o.state l o.ans o.shape (g.facts f) }

-- the three ways on from an answer
module _ (l : Look) (n y a : Fact → Look) (N Y B : State → Out) (TN TY TB : State → List Step) (p : Sound n N TN) (q : Sound y Y TY) (r : Sound a B TB) where
  abbrev on_no : Look
  on_no = from l.if_no n

  abbrev on_yes : Look
  on_yes = from l.if_yes y

  abbrev on_also : Look
  on_also = from l.if_also a

  ways : (x : Ans) (k : ℕ) (s₀ s : State) → (either on_no (either on_yes on_also)).ok ≡ true → fact_never (again_of l) ≡ true → Holds (get l x k) s₀ s
      → (is_again x ≡ false) × Gives (either on_no (either on_yes on_also)) s₀ (choose x N Y B s) (choose x TN TY TB s)
  unfolding choose get is_again
  ways no k s₀ s m e h = (refl, gives_first on_no (either on_yes on_also) s₀ (N s) (TN s) (from_sound n N TN p l.if_no s₀ s (and_left on_no.ok _ m) h))
  ways yes k s₀ s m e h = (
    refl,
    gives_second on_no (either on_yes on_also) s₀ (Y s) (TY s)
        (gives_first on_yes on_also s₀ (Y s) (TY s) (from_sound y Y TY q l.if_yes s₀ s (and_left on_yes.ok _ (and_right on_no.ok _ m)) h)),
  )
  ways also k s₀ s m e h = (
    refl,
    gives_second on_no (either on_yes on_also) s₀ (B s) (TB s)
        (gives_second on_yes on_also s₀ (B s) (TB s) (from_sound a B TB r l.if_also s₀ s (and_right on_yes.ok _ (and_right on_no.ok _ m)) h)),
  )
  ways again k s₀ s m e h = holds_never (again_of l) s₀ s e (in_again s₀ s l k h)

-- a condition and what follows it
gives_case : (l m : Look) (s₀ : State) (o x : Out) (ss us : List Step) → Gives l s₀ o ss
    → (Holds (get l o.ans o.shape) s₀ o.state → (is_again o.ans ≡ false) × Gives m s₀ x us) → Gives m s₀ (add o x) (ss ++ (branched o.ans ∷ us))
unfolding add
gives_case l m s₀ o x ss us g k =
    record {
      each = each_append Good ss (branched o.ans ∷ us) g.each (λ f. ((k (g.facts f)).0, (k (g.facts f)).1.each));
      facts = λ f. let w : Free ss × Free us = free_append ss (branched o.ans ∷ us) f in (k (g.facts w.0)).1.facts w.1;
    }

-- ---------------------------------------------------------------- loops and chains

module _ (f : Fact → Look) (G : State → Out) (T : State → List Step) (S : Sound f G T) where
  -- what a look at a loop asks for
  abbrev moving : Fact → Bool
  moving i = moves (turns i f).first && moves (turns i f).after

  abbrev kept : Fact → Bool
  kept i = fact_within (left_over (turns i f)) i

  looped_gives : (i : Fact) (s₀ s : State) → (looped i (turns i f)).ok ≡ true → Holds i s₀ s
      → Gives (looped i (turns i f)) s₀ (iter (suc (length s.rest)) G s) (iter_steps (suc (length s.rest)) G T s)
  unfolding looped
  looped_gives i s₀ s m h =
      let c : (moving i && kept i) ≡ true = and_left (moving i && kept i) _ m in
      gives_and (moving i && kept i) (stopped (joined (turns i f))) s₀ _ _
      (iter_gives i f G T S (unfold joined in (and_right (moving i && kept i) _ m)) (and_left (moving i) (kept i) c) (and_right (moving i) (kept i) c) (suc (length s.rest)) s₀ s (le_refl _) h)

  linked_gives : (i : Fact) (s₀ s : State) (m : ℕ) (a p : Skeleton) → (looped i (turns i f)).ok ≡ true → fact_never (turns i f).first.if_again ≡ true → fact_never (turns i f).after.if_again ≡ true → Holds i s₀ s
      → Gives (looped i (turns i f)) s₀ (links (suc (length s.rest)) G m a p s) (links_steps (suc (length s.rest)) G T s)
  unfolding looped
  linked_gives i s₀ s m a p ok u v h =
      let c : (moving i && kept i) ≡ true = and_left (moving i && kept i) _ ok in
      gives_and (moving i && kept i) (stopped (joined (turns i f))) s₀ _ _
      (links_gives i f G T S (unfold joined in (and_right (moving i && kept i) _ ok)) (and_left (moving i) (kept i) c) (and_right (moving i) (kept i) c) u v (suc (length s.rest)) s₀ s m a p (le_refl _) h)

  settled_holds : (d : Fact) (s₀ s : State) → Holds d s₀ s → Holds (settled d f) s₀ s
  unfolding settled
  settled_holds d s₀ s h = holds_left d (left_over (turns d f)) s₀ s h

  -- a chain whose first program, from s, gave o
  chained_gives : (l : Look) (s₀ s : State) (o : Out) (ss : List Step) → Gives l s₀ o ss → (looped (settled (again_of l) f) (turns (settled (again_of l) f) f)).ok ≡ true
      → fact_never (turns (settled (again_of l) f) f).first.if_again ≡ true → fact_never (turns (settled (again_of l) f) f).after.if_again ≡ true
      → Gives (either (stopped l) (looped (settled (again_of l) f) (turns (settled (again_of l) f) f))) s₀ (chained G s o)
      (ss ++ cond (is_again o.ans) (links_steps (suc (length o.state.rest)) G T o.state) [])
  unfolding chained
  chained_gives l s₀ s o ss g ok u v = go (is_again o.ans) refl
    where
      head : is_again o.ans ≡ true → Free ss → Holds (settled (again_of l) f) s₀ o.state
      head e x =
          settled_holds (again_of l) s₀ o.state (in_again s₀ o.state l o.shape (subst (λ (a : Ans). Holds (get l a o.shape) s₀ o.state) (is_again_eq o.ans e) (g.facts x)))

      rest : is_again o.ans ≡ true → Free ss → Gives (looped (settled (again_of l) f) (turns (settled (again_of l) f) f)) s₀ (links (suc (length o.state.rest)) G (mark_of s) done o.made o.state) (links_steps (suc (length o.state.rest)) G T o.state)
      rest e x = linked_gives (settled (again_of l) f) s₀ o.state (mark_of s) done o.made ok u v (head e x)

      go : (b : Bool) → is_again o.ans ≡ b
          → Gives (either (stopped l) (looped (settled (again_of l) f) (turns (settled (again_of l) f) f))) s₀
          (cond b (links (suc (length o.state.rest)) G (mark_of s) done o.made o.state) (unlinked (mark_of s) done o.made o.ans o.state))
          (ss ++ cond b (links_steps (suc (length o.state.rest)) G T o.state) [])
      go true e =
          record {
            each = each_append Good ss (links_steps (suc (length o.state.rest)) G T o.state) g.each (λ x. (rest e x).each);
            facts = λ x.
                let w : Free ss × Free (links_steps (suc (length o.state.rest)) G T o.state) = free_append ss (links_steps (suc (length o.state.rest)) G T o.state) x in
                (gives_second (stopped l) (looped (settled (again_of l) f) (turns (settled (again_of l) f) f)) s₀ _ _ (rest e w.0)).facts w.1;
          }
      go false e = unfold unlinked makes in
          (record {
            each = each_append Good ss [] g.each (λ x. tt);
            facts = λ x.
                in_first s₀ o.state (stopped l) (looped (settled (again_of l) f) (turns (settled (again_of l) f) f)) o.ans 0
                (in_stopped s₀ o.state l o.ans o.shape 0 e (g.facts (free_append ss [] x).0));
          })

-- ---------------------------------------------------------------- every program

module _ (ask : Rule → State → Out) (inner : Rule → State → List Step) (t : Rule → Fact → Look) (sound : (r : Rule) → Sound (t r) (ask r) (inner r)) where
  pub exec_gives : (b : Label) (p : Prog) → Sound (look t p) (exec ask b p) (steps ask inner b p)
  unfolding exec look steps may_begin
  exec_gives b (ret k a) d s₀ s m h = gives_begun (ret k a) d s₀ s (only a k d) _ [] refl h (record { each = tt; facts = λ _. in_only s₀ s a k d h })
  exec_gives b (act a) d s₀ s m h =
      let may : may_act a d ≡ true = and_left (may_act a d) _ m in
      gives_begun (act a) d s₀ s (and_ok (may_act a d) (act_look a d)) (perform b a s) [] may h
      (gives_and (may_act a d) (act_look a d) s₀ (perform b a s) [] (record { each = tt; facts = λ _. act_holds b a d s₀ s may h }))
  exec_gives b (p ⨟ q) d s₀ s m h =
      let l : Look = look t p d in
      let c : (may_begin (p ⨟ q) d && l.ok) ≡ true = and_left (may_begin (p ⨟ q) d && l.ok) _ m in
      gives_begun (p ⨟ q) d s₀ s _ _ _ (and_left (may_begin (p ⨟ q) d) l.ok c) h
      (gives_and (may_begin (p ⨟ q) d && l.ok) (from (any_of l) (look t q)) s₀ _ _
      (gives_add l (from (any_of l) (look t q)) s₀ (exec ask b p s) (exec ask b q (exec ask b p s).state) (steps ask inner b p s) (steps ask inner b q (exec ask b p s).state)
      (exec_gives b p d s₀ s (and_right (may_begin (p ⨟ q) d) l.ok c) h)
      (λ g. from_sound (look t q) (exec ask b q) (steps ask inner b q) (exec_gives b q) (any_of l) s₀ (exec ask b p s).state (and_right (may_begin (p ⨟ q) d && l.ok) _ m)
      (in_any s₀ (exec ask b p s).state l (exec ask b p s).ans (exec ask b p s).shape g))))
  exec_gives b (case c n y a) d s₀ s m h =
      let l : Look = look t c d in
      let e : (l.ok && fact_never (again_of l)) ≡ true = and_left (l.ok && fact_never (again_of l)) _ m in
      gives_begun (case c n y a) d s₀ s _ _ _ refl h
      (gives_and (l.ok && fact_never (again_of l)) (either (from l.if_no (look t n)) (either (from l.if_yes (look t y)) (from l.if_also (look t a)))) s₀ _ _
      (gives_case l _ s₀ (exec ask b c s) _ (steps ask inner b c s) _ (exec_gives b c d s₀ s (and_left l.ok _ e) h)
      (λ g. ways l (look t n) (look t y) (look t a) (exec ask b n) (exec ask b y) (exec ask b a) (steps ask inner b n) (steps ask inner b y) (steps ask inner b a) (exec_gives b n) (exec_gives b y) (exec_gives b a)
      (exec ask b c s).ans (exec ask b c s).shape s₀ (exec ask b c s).state (and_right (l.ok && fact_never (again_of l)) _ m) (and_right l.ok _ e) g)))
  exec_gives b (in_marker p) d s₀ s m h =
      gives_begun (in_marker p) d s₀ s _ _ _ (and_left (may_begin (in_marker p) d) _ m) h
      (gives_and (may_begin (in_marker p) d) (unshaped (look t p d)) s₀ _ _ (gives_marked (look t p d) s₀ s (exec ask b p s) (steps ask inner b p s) (exec_gives b p d s₀ s (and_right (may_begin (in_marker p) d) _ m) h)))
  exec_gives b (loop p) d s₀ s m h =
      gives_begun (loop p) d s₀ s _ _ _ refl h
      (looped_gives (look t p) (exec ask b p) (steps ask inner b p) (exec_gives b p) (settled d (look t p)) s₀ s m (settled_holds (look t p) (exec ask b p) (steps ask inner b p) (exec_gives b p) d s₀ s h))
  exec_gives b (chain p q) d s₀ s m h =
      let l : Look = look t p d in
      let f : Fact → Look = look t q in
      let i : Fact = settled (again_of (look t p d)) (look t q) in
      let u : (l.ok && (fact_never (turns i f).first.if_again && fact_never (turns i f).after.if_again)) ≡ true = and_left (l.ok && (fact_never (turns i f).first.if_again && fact_never (turns i f).after.if_again)) _ m in
      let v : (fact_never (turns i f).first.if_again && fact_never (turns i f).after.if_again) ≡ true = and_right l.ok _ u in
      gives_begun (chain p q) d s₀ s _ _ _ refl h
      (gives_and (l.ok && (fact_never (turns i f).first.if_again && fact_never (turns i f).after.if_again)) (either (stopped l) (looped i (turns i f))) s₀ _ _
      (chained_gives f (exec ask b q) (steps ask inner b q) (exec_gives b q) l s₀ s (exec ask b p s) (steps ask inner b p s) (exec_gives b p d s₀ s (and_left l.ok _ u) h)
      (and_right l.ok _ (and_right (l.ok && (fact_never (turns i f).first.if_again && fact_never (turns i f).after.if_again)) _ m))
      (and_left (fact_never (turns i f).first.if_again) _ v) (and_right (fact_never (turns i f).first.if_again) _ v)))
  exec_gives b (brace p) d s₀ s m h =
      gives_begun (brace p) d s₀ s _ _ _ (and_left (may_begin (brace p) d) _ m) h
      (gives_and (may_begin (brace p) d) (look t p d) s₀ _ _ (exec_gives (here s.rest) p d s₀ s (and_right (may_begin (brace p) d) _ m) h))
  exec_gives b (open_call r) d s₀ s m h = gives_begun (open_call r) d s₀ s _ _ _ refl h (sound r d s₀ s m h)

-- ---------------------------------------------------------------- the counted functions

-- a look that is computed, at a function called where it may be
calls_give : (r : Rule) (n : ℕ) → ((q : Rule) → Sound (table q) (run n q) (run_steps n q)) → (i : Fact) (l : Look) → looks_within (look table (grammar r) i) l ≡ true
    → (s₀ s : State) → Holds i s₀ s → Gives l s₀ (run (suc n) r s) (run_steps (suc n) r s)
unfolding run run_steps
calls_give r n S i l e s₀ s h =
    gives_by (look table (grammar r) i) l s₀ (exec (run n) no_label (grammar r) s) (steps (run n) (run_steps n) no_label (grammar r) s) (in_weaken s₀ _ (look table (grammar r) i) l e _ _)
    (exec_gives (run n) (run_steps n) table S no_label (grammar r) i s₀ s (unfold looks_within in (and_left (look table (grammar r) i).ok _ e)) h)

-- a function that is called where it may be
called : (n : ℕ) (r : Rule) → ((q : Rule) → Sound (table q) (run n q) (run_steps n q)) → (d : Fact) (s₀ s : State) (b : Bool) → fact_within d (calls_in r) ≡ b → (calls_by b r d).ok ≡ true → Holds d s₀ s
    → Gives (calls_by b r d) s₀ (run (suc n) r s) (run_steps (suc n) r s)
unfolding calls_by
called n r S d s₀ s true e m h = calls_give r n S (calls_in r) (calls_out r) (calls_hold r) s₀ s (holds_weaken d (calls_in r) s₀ s e h)
called n r S d s₀ s false e m h =
    gives_and (fact_within d (wide_in r)) (wide_out r) s₀ _ _
    (calls_give r n S (wide_in r) (wide_out r) (wide_holds r) s₀ s (holds_weaken d (wide_in r) s₀ s (and_left (fact_within d (wide_in r)) _ m) h))

calls_sound : (n : ℕ) (r : Rule) → Sound (calls r) (run n r) (run_steps n r)
unfolding calls run_steps table
calls_sound zero r d s₀ s m h = record { each = tt; facts = λ f. absurd f }
calls_sound (suc n) r d s₀ s m h =
    called n r (λ q. joined_sound (calls q) (run n q) (run_steps n q) (calls_sound n q)) d s₀ s (fact_within d (calls_in r)) refl m h

-- EVERY CALL does what the table says, with any number of open calls allowed
pub run_gives : (n : ℕ) (r : Rule) → Sound (table r) (run n r) (run_steps n r)
unfolding table
run_gives n r = joined_sound (calls r) (run n r) (run_steps n r) (calls_sound n r)

-- ---------------------------------------------------------------- every run

starts : (ts : List Token) → Holds start (taken ts) (taken ts)
unfolding pick pend_from
starts ts = record { within = le_refl _; below = le_refl _; way = fresh_way refl (record { told = nothing_knows (drop_trivia ts) }) }

-- EACH STEP OF A RUN is good, for every entry and every list of tokens
pub entry_good : (e : Entry) (ts : List Token) → EveryStep Good (entry_steps e ts)
unfolding entry_steps
entry_good e ts = (exec_gives (run MOST_OPEN_CALLS) (run_steps MOST_OPEN_CALLS) table (run_gives MOST_OPEN_CALLS) no_label (whole e) start (taken ts) (taken ts) (whole_looks e) (starts ts)).each
