-- The actions that test, push an expectation, or take a token or a name.
use Prim.Native.Nat.{ℕ, ◌-◌}
use native.Mathlib.Omega.{arith}
use mathlib.Core.Path.{◌≡◌, refl, sym, ap, ◌∙◌, subst}
use mathlib.Core.Bool.{true}
use mathlib.Core.List.{List, [], ◌∷◌, ◌++◌}
use lib.ListN.{length}
use Rattle.definitions.specs.Layout.{ADD_TOKEN, ADD_COMBINED_TOKEN, TOO_DEEP}
use Rattle.definitions.specs.Token.{Token, drop_trivia}
use Rattle.definitions.specs.Skeleton.{Report, done, token, name, over}
use Rattle.definitions.specs.Refusal.{too_deep, number_of, place_of}
use Rattle.definitions.specs.Prog.{Ans, no, yes}
use Rattle.definitions.specs.Run.{State, mark_of, replies, makes, taken, peeked, do_bump, stretch_of, do_name, do_expected}
use Rattle.definitions.specs.Once.{pushed_once}
use Rattle.definitions.specs.Report.{exceeded, Fit, stops, scan, pushes, reports}
use Rattle.definitions.specs.Call.{forward_mark}
use Rattle.laws.specs.Once.{is_expectation}
use Rattle.laws.proofs.Listed.{held_push}
use Rattle.laws.proofs.Scan.{and_then, scan_append}
use Rattle.basics.specs.Word.{low}
use Rattle.machine.specs.Machine.{Machine, Pending, with_pending, rest, peek, took, refuse, expect_code, push, bump_first, name_stretch, name_first}
use Rattle.machine.specs.Machine as M
use Rattle.machine.specs.Walk.{Walked, said}
use Rattle.machine.specs.Outcome.{Refused}
use Rattle.machine.proofs.Coded.{coded}
use Rattle.machine.proofs.Suffix.{Suffix, suffix_tail}
use Rattle.machine.proofs.Image.{Ground, image, Inside, moved, rest_is, inside_taken, inside_peeked, took_is}
use Rattle.machine.proofs.Expecting.{expect_is}
use Rattle.machine.proofs.Moves.{peek_is, run_suffix, name_run_is, name_count}
use Rattle.machine.proofs.Meets.{Sofar, Fitting, stand, Meets, goes, stop, grow, grow_done, Sim, Tracks, room_at_first, push_meets}

-- nothing written
pub quiet : (g : Ground) (c : Sofar) (a : Ans) (k : ℕ) (s : State) (w : Walked) → Fitting g c → Inside g s → w ≡ record { ans = a; shape = k; on = stand g c s } → Meets g (grow c done) a k s w
quiet g c a k s w f i e = subst (λ (x : Sofar). Meets g x a k s w) (sym (grow_done c)) (goes f i e)

-- ---------------------------------------------------------------- tests

-- a test after a peek
pub peek_sim : (g : Ground) (h : List Token → Ans) → Tracks g (λ s. replies (h (peeked s).rest) (peeked s)) (λ m. said (h (rest g.tokens (peek g.tokens m))) (peek g.tokens m))
unfolding replies
peek_sim g h c s f i =
    let j : Inside g (peeked s) = inside_peeked g s i in
    quiet g c (h (peeked s).rest) 0 (peeked s) _ f j
    (ap (λ (m : Machine). said (h (rest g.tokens m)) m) (peek_is g c.numbers (reports c.pushed) s i)
    ∙ ap (λ (l : List Token). said (h l) (stand g c (peeked s))) (rest_is g c.numbers (reports c.pushed) (peeked s) j))

-- a test of the tokens from the cursor on
pub here_sim : (g : Ground) (h : List Token → Ans) → Tracks g (λ s. replies (h s.rest) s) (λ m. said (h (rest g.tokens m)) m)
unfolding replies
here_sim g h c s f i = quiet g c (h s.rest) 0 s _ f i (ap (λ (l : List Token). said (h l) (stand g c s)) (rest_is g c.numbers (reports c.pushed) s i))

-- a test of nothing
pub fixed_sim : (g : Ground) (a : Ans) (k : ℕ) → Tracks g (λ s. record { ans = a; shape = k; made = done; state = s }) (λ m. record { ans = a; shape = k; on = m })
fixed_sim g a k c s f i = quiet g c a k s _ f i refl

-- ---------------------------------------------------------------- refusal 5

pub refused_deep : (g : Ground) (e : List ℕ) (l : List Report) (s : State) → Refused g.tokens (too_deep (mark_of s)) (refuse TOO_DEEP (image g e l s))
unfolding refuse image number_of place_of forward_mark
refused_deep g e l s = record { refusal = refl; some = omega arith; place = refl }

pub deep_stops : (g : Ground) (c : Sofar) (m : ℕ) → Fitting g c → scan (c.pushed ++ (exceeded m ∷ [])) (room_at_first g) ≡ stops (too_deep m)
unfolding scan
deep_stops g c m f = scan_append c.pushed (exceeded m ∷ []) (room_at_first g) ∙ ap (λ (x : Fit). and_then x (scan (exceeded m ∷ []))) f.room

-- an open call too many
pub over_sim : (g : Ground) → Tracks g (λ s. makes no (over (mark_of s) done) s) (λ m. said no (refuse TOO_DEEP m))
unfolding makes pushes coded
over_sim g c s f i = stop (too_deep (mark_of s)) (deep_stops g c (mark_of s) f) (refused_deep g c.numbers (reports c.pushed) s)

-- ---------------------------------------------------------------- an expectation

abbrev expecting : State → ℕ → State
expecting s k = record { rest = s.rest; since = s.since; pending = pushed_once k s.pending }

pub expected_sim : (g : Ground) (k : ℕ) → is_expectation k ≡ true → Tracks g (do_expected k) (λ m. said yes (expect_code k m))
unfolding do_expected replies expect_code image
expected_sim g k e c s f i =
    quiet g c yes 0 (expecting s k) _ f (record { rest = i.rest; since = i.since; order = i.order; held = held_push s.pending k i.held e })
    (ap (λ (x : Pending). said yes (with_pending x (stand g c s))) (expect_is s.pending k i.held e))

-- ---------------------------------------------------------------- a token, a name

-- with the tokens from the current one on
first_sim : (g : Ground) (c : Sofar) (s : State) (l : List Token) → Fitting g c → Inside g (moved s l) → Sim g c (do_bump (moved s l) l) (said yes (bump_first l (stand g c (moved s l))))
unfolding do_bump replies makes bump_first coded pushes
first_sim g c s [] f i = quiet g c yes 0 (moved s []) _ f i refl
first_sim g c s (t ∷ l) f i =
    let p : Suffix g.tokens l = suffix_tail g.tokens l t i.rest in
    subst (λ (m : Machine). Meets g (grow c (token t (length l) done)) yes 0 (taken l) (said yes (push ADD_TOKEN 0 m))) (sym (took_is g c.numbers (reports c.pushed) s t l i.rest))
    (push_meets g c f (taken l) ADD_TOKEN 0 yes 0 (inside_taken g l p))

name_sim : (g : Ground) (ks : List ℕ) (c : Sofar) (s : State) (l : List Token) → Fitting g c → Inside g (moved s l) → Sim g c (do_name ks (moved s l) l) (said yes (name_first ks l (stand g c (moved s l))))
unfolding do_name replies makes name_first coded pushes
name_sim g ks c s [] f i = quiet g c yes 0 (moved s []) _ f i refl
name_sim g ks c s (t ∷ l) f i =
    let p : Suffix g.tokens l = suffix_tail g.tokens l t i.rest in
    let e = c.numbers in
    let u = reports c.pushed in
    let r = stretch_of ks l in
    let o = name (t ∷ r.raw) (length r.after) done in
    let is : name_stretch ks l (took t (stand g c (moved s (t ∷ l)))) ≡ stand g c (taken r.after) =
    ap (name_stretch ks l) (took_is g e u s t l i.rest) ∙ name_run_is g e u ks l p in
    subst (λ (m : Machine). Meets g (grow c o) yes 0 (taken r.after) (said yes (push ADD_COMBINED_TOKEN (low (m.cursor - (stand g c (moved s (t ∷ l))).cursor)) m))) (sym is)
    (subst (λ (n : ℕ). Meets g (grow c o) yes 0 (taken r.after) (said yes (push ADD_COMBINED_TOKEN n (stand g c (taken r.after))))) (sym (name_count g e u s ks t l i.rest))
    (push_meets g c f (taken r.after) ADD_COMBINED_TOKEN (length (t ∷ r.raw)) yes 0 (inside_taken g r.after (run_suffix g ks l p))))

pub bump_sim : (g : Ground) → Tracks g (λ s. do_bump (peeked s) (peeked s).rest) (λ m. said yes (M.bump g.tokens m))
unfolding M.bump peeked
bump_sim g c s f i =
    let e = c.numbers in
    let u = reports c.pushed in
    let l = drop_trivia s.rest in
    let j : Inside g (moved s l) = inside_peeked g s i in
    subst (λ (m : Machine). Sim g c (do_bump (moved s l) l) (said yes (bump_first (rest g.tokens m) m))) (sym (peek_is g e u s i))
    (subst (λ (x : List Token). Sim g c (do_bump (moved s l) l) (said yes (bump_first x (stand g c (moved s l))))) (sym (rest_is g e u (moved s l) j)) (first_sim g c s l f j))

pub bump_name_sim : (g : Ground) (ks : List ℕ) → Tracks g (λ s. do_name ks (peeked s) (peeked s).rest) (λ m. said yes (M.bump_name ks g.tokens m))
unfolding M.bump_name peeked
bump_name_sim g ks c s f i =
    let e = c.numbers in
    let u = reports c.pushed in
    let l = drop_trivia s.rest in
    let j : Inside g (moved s l) = inside_peeked g s i in
    subst (λ (m : Machine). Sim g c (do_name ks (moved s l) l) (said yes (name_first ks (rest g.tokens m) m))) (sym (peek_is g e u s i))
    (subst (λ (x : List Token). Sim g c (do_name ks (moved s l) l) (said yes (name_first ks x (stand g c (moved s l))))) (sym (rest_is g e u (moved s l) j)) (name_sim g ks c s l f j))
