-- At a non-end cursor one item takes at least one token, unless the run meets refusal 5: the analysis of Progress.antt
-- is sound.
use Prim.Native.Nat.{ℕ, zero, suc, ◌≤◌, ◌<◌}
use native.Mathlib.Nat.{le_trans, le_refl}
use native.Mathlib.Omega.{arith}
use mathlib.Core.Path.{◌≡◌, refl, sym, ◌∙◌}
use mathlib.Core.Bool.{Bool, true, false, false≢true, true≢false}
use lib.ListN.{length}
use Rattle.definitions.specs.Prog.{Ans, no, yes, also, again, Rule, item, propvalues}
use Rattle.definitions.specs.Grammar.{grammar, sourcefile_part}
use Rattle.definitions.specs.Skeleton.{Label, no_label}
use Rattle.definitions.specs.Run.{State, Out, mark_of, makes, exec, run}
use Rattle.definitions.specs.Report.{pushes}
use Rattle.basics.proofs.Tests.{and_left}
use Rattle.laws.proofs.Kept.{Stands}
use Rattle.laws.proofs.Onward.{Onward, Goes, run_goes}
use Rattle.laws.proofs.Clear.{BelowLimits}
use Rattle.laws.proofs.Analysis.{Look, get, same, look}
use Rattle.laws.proofs.Sound.{Gives, Sound, Acts, in_same, weaken_look, exec_gives}
use Rattle.laws.proofs.Progress.{Fact, fact, taking, standing, anything, or_took, or_took_all, fresh, facts_from, taking_tokens, there_table, by_there, table, table_holds, part_facts}
use Rattle.laws.proofs.FactsHold.{There, Gone, Taken, Case, took_case, there_case, gone_case, Holds, or_left, in_right, in_anything, taking_means, act_holds}

-- ---------------------------------------------------------------- a program entered

-- a token was taken before, or none was
in_took : (t : Bool) (l : Look Fact) (a : Ans) (s₀ s : State) → t ≡ true → Stands s → length s.rest ≤ length s₀.rest → Taken s₀ s → Holds (get (or_took_all t l) a) s₀ s
in_took t l no s₀ s e k b x = record { stands = k; below = b; case = took_case (or_left t l.if_no.took e) x }
in_took t l yes s₀ s e k b x = record { stands = k; below = b; case = took_case (or_left t l.if_yes.took e) x }
in_took t l also s₀ s e k b x = record { stands = k; below = b; case = took_case (or_left t l.if_also.took e) x }
in_took t l again s₀ s e k b x = record { stands = k; below = b; case = took_case (or_left t l.if_again.took e) x }

or_took_case : (t : Bool) (d : Fact) (s₀ s : State) → Holds d s₀ s → Holds (or_took t d) s₀ s
or_took_case t d s₀ s h = in_right (fact t false false) d s₀ s h

in_fresh : (t : Bool) (l : Look Fact) (a : Ans) (s₀ s : State) → Holds (get l a) s₀ s → Holds (get (or_took_all t l) a) s₀ s
in_fresh t l no s₀ s h = or_took_case t l.if_no s₀ s h
in_fresh t l yes s₀ s h = or_took_case t l.if_yes s₀ s h
in_fresh t l also s₀ s h = or_took_case t l.if_also s₀ s h
in_fresh t l again s₀ s h = or_took_case t l.if_again s₀ s h

module _ (f : Fact → Look Fact) (G : State → Out) (S : Sound taking_tokens taking_means f G) (s₀ s : State) (k : Stands s) (b : length s.rest ≤ length s₀.rest) where
  fresh_there : (h g : Bool) → (fresh h g f).ok ≡ true → h ≡ true → There s → Gives taking_tokens taking_means (fresh h g f) s₀ (G s)
  unfolding fresh
  fresh_there true g m e x = S (fact false true g) s₀ s m (record { stands = k; below = b; case = there_case refl x })
  fresh_there false g m e x = absurd (false≢true e)

  fresh_gone : (h g : Bool) → (fresh h g f).ok ≡ true → g ≡ true → Gone s → Gives taking_tokens taking_means (fresh h g f) s₀ (G s)
  unfolding fresh
  fresh_gone true g m e x = S (fact false true g) s₀ s m (record { stands = k; below = b; case = gone_case e x })
  fresh_gone false true m e x = S (fact false false true) s₀ s m (record { stands = k; below = b; case = gone_case refl x })
  fresh_gone false false m e x = absurd (false≢true e)

enter : (f : Fact → Look Fact) (G : State → Out) → Sound taking_tokens taking_means f G → ((s : State) → Goes s (G s)) → Sound taking_tokens taking_means (λ d. facts_from d f) G
unfolding facts_from
enter f G S goes d s₀ s m h w = (tt, go h.case)
  where
    go : Case d s₀ s → Holds (get (or_took_all d.took (fresh d.there d.gone f)) (G s).ans) s₀ (G s).state
    go (took_case i t) =
        let g : Stands (G s).state × Onward s (G s).made (G s).state = goes s h.stands in
        in_took d.took (fresh d.there d.gone f) (G s).ans s₀ (G s).state i g.0 (le_trans g.1.rest h.below) (omega (arith, g.1.marks))
    go (there_case i t) =
        in_fresh d.took (fresh d.there d.gone f) (G s).ans s₀ (G s).state (fresh_there f G S s₀ s h.stands h.below d.there d.gone m i t w).1
    go (gone_case i t) =
        in_fresh d.took (fresh d.there d.gone f) (G s).ans s₀ (G s).state (fresh_gone f G S s₀ s h.stands h.below d.there d.gone m i t w).1

pub taking_acts : Acts taking_tokens taking_means
taking_acts = record { act = λ b a d s₀ s m h w. (tt, act_holds b a d s₀ s h); enter = enter }

-- ---------------------------------------------------------------- the table

-- what is known before a call, and what the table says of it
pub table_gives : (r : Rule) (n : ℕ) → ((s₀ s : State) → Holds standing s₀ s → Gives taking_tokens taking_means (there_table r) s₀ (run n r s)) → Sound taking_tokens taking_means (table r) (run n r)
unfolding table
table_gives r n T d s₀ s m h w = (tt, go d.there d.gone refl refl h.case)
  where
    g : Stands (run n r s).state × Onward s (run n r s).made (run n r s).state
    g = run_goes n r s h.stands

    any : Holds (get (same true anything) (run n r s).ans) s₀ (run n r s).state
    any = in_same taking_tokens taking_means true anything (run n r s).ans s₀ (run n r s).state (in_anything s₀ (run n r s).state g.0 (le_trans g.1.rest h.below))

    go : (a b : Bool) → d.there ≡ a → d.gone ≡ b → Case d s₀ s → Holds (get (by_there r d.took a b) (run n r s).ans) s₀ (run n r s).state
    go true true e f c = any
    go false true e f c = any
    go true false e f (took_case i t) = in_took d.took (there_table r) (run n r s).ans s₀ (run n r s).state i g.0 (le_trans g.1.rest h.below) (omega (arith, g.1.marks))
    go true false e f (there_case i t) =
        in_fresh d.took (there_table r) (run n r s).ans s₀ (run n r s).state (T s₀ s (record { stands = h.stands; below = h.below; case = there_case refl t }) w).1
    go true false e f (gone_case i t) = absurd (true≢false (sym i ∙ f))
    go false false e f (took_case i t) =
        in_same taking_tokens taking_means true (fact d.took false false) (run n r s).ans s₀ (run n r s).state
        (record { stands = g.0; below = le_trans g.1.rest h.below; case = took_case i (omega (arith, g.1.marks)) })
    go false false e f (there_case i t) = absurd (true≢false (sym i ∙ e))
    go false false e f (gone_case i t) = absurd (true≢false (sym i ∙ f))

-- THE TABLE HOLDS of every call, with any number of open calls allowed
pub run_takes : (n : ℕ) (r : Rule) (s₀ s : State) → Holds standing s₀ s → BelowLimits (run n r s).made → Holds (get (there_table r) (run n r s).ans) s₀ (run n r s).state
unfolding run makes pushes
run_takes zero r s₀ s h w = absurd w.clear
run_takes (suc n) r s₀ s h w =
    (weaken_look taking_tokens taking_means (look taking_tokens table (grammar r) standing) (there_table r) (table_holds r) s₀ (exec (run n) no_label (grammar r) s)
    (exec_gives taking_tokens taking_means taking_acts (run n) (run_goes n) table (λ q. table_gives q n (λ u₀ u x v. (tt, run_takes n q u₀ u x v))) no_label (grammar r) standing s₀ s
    (and_left (look taking_tokens table (grammar r) standing).ok _ (table_holds r)) h)
    w).1

starts : (s : State) → Stands s → There s → Holds standing s s
starts s h t = record { stands = h; below = le_refl _; case = there_case refl t }

surely_taken : (a : Ans) (s₀ s : State) → Holds (get (same true taking) a) s₀ s → mark_of s < length s₀.rest
surely_taken a s₀ s h = go (take a h)
  where
    take : (a : Ans) → Holds (get (same true taking) a) s₀ s → Case taking s₀ s
    take no h = h.case
    take yes h = h.case
    take also h = h.case
    take again h = h.case

    go : Case taking s₀ s → mark_of s < length s₀.rest
    go (took_case i t) = t
    go (there_case i t) = absurd (false≢true i)
    go (gone_case i t) = absurd (false≢true i)

-- ONE ITEM TAKES AT LEAST ONE TOKEN at a non-end cursor, unless the run meets refusal 5: fewer tokens are left after
-- the last one taken than stood at the cursor
pub item_takes : (n : ℕ) (s : State) → Stands s → There s → BelowLimits (run n item s).made → mark_of (run n item s).state < length s.rest
item_takes n s h t w = surely_taken (run n item s).ans s (run n item s).state (run_takes n item s s (starts s h t) w)

-- and so do values
pub propvalues_takes : (n : ℕ) (b : Bool) (s : State) → Stands s → There s → BelowLimits (run n (propvalues b) s).made → mark_of (run n (propvalues b) s).state < length s.rest
propvalues_takes n b s h t w = surely_taken (run n (propvalues b) s).ans s (run n (propvalues b) s).state (run_takes n (propvalues b) s s (starts s h t) w)

-- EACH TOP-LEVEL STATEMENT takes at least one token
pub part_takes : (n : ℕ) (b : Label) (s : State) → Stands s → There s → BelowLimits (exec (run n) b sourcefile_part s).made
    → mark_of (exec (run n) b sourcefile_part s).state < length s.rest
part_takes n b s h t w =
    let o : Out = exec (run n) b sourcefile_part s in
    surely_taken o.ans s o.state
    (weaken_look taking_tokens taking_means (look taking_tokens table sourcefile_part standing) (same true taking) part_facts s o
    (exec_gives taking_tokens taking_means taking_acts (run n) (run_goes n) table (λ q. table_gives q n (λ u₀ u x v. (tt, run_takes n q u₀ u x v))) b sourcefile_part standing s s
    (and_left (look taking_tokens table sourcefile_part standing).ok _ part_facts) (starts s h t))
    w).1
