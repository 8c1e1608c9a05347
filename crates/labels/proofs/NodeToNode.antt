-- The turns of the loop over the judged nodes: what `next_judged` finds is where `nodes_on` comes to. Once a report did
-- not fit nothing changes.
use Rattle.std.proofs.Common.{◌≡◌, ℕ, suc, ◌+◌, Bool, true, false, cond, ◌&&◌, Result, Ok, Err, List, [], ◌∷◌, eqb, drop, refl, sym, ap, ◌∙◌, subst, arith}
use Rattle.std.proofs.Math.Seq.{drop-drop}
use Rattle.basics.specs.Word.{low}
use Rattle.basics.proofs.Tests.{cond-all}
use Rattle.definitions.specs.NodeKind as N
use Rattle.definitions.specs.Token.{Token}
use Rattle.token_rows.specs.declared.token.Seat.{Seat}
use Rattle.labels.specs.declared.event.Event.{Event}
use Rattle.labels.specs.declared.event.Event.TheVariants.{Start, Token as AddToken, Name, Finish, Other}
use Rattle.labels.specs.declared.report.NoMoreReports.{NoMoreReports}
use Rattle.labels.specs.declared.scan.Found.{Found}
use Rattle.labels.specs.declared.scan.NoneFound.{NoneFound}
use Rattle.labels.specs.Model.{Out, out, On, on, at_seat, walk_at, with_names, ends, breaks, reported, token_on, name_on, event_on, inside_on, settled, passed, solid_after, node_on, judged_kind, found, next_judged, nodes_on}

-- ---------------------------------------------------------------- what is found

-- the events es after b tokens come to the same as es' after b'
abbrev Same : List Event → ℕ → List Event → ℕ → Type 0
Same es b es' b' = (bytes : List ℕ) (ts : List Token) (first : ℕ) (p : Seat) (x : Out)
    → nodes_on bytes ts first es b p x ≡ nodes_on bytes ts first es' b' p x

-- a judged node starts at the event found; r: none of these is one
record Starts (es : List Event) (i behind : ℕ) (f : Found) : Type 0 where
  skipped : ℕ
  event : f.event ≡ i + skipped
  judged : judged_kind f.kind ≡ true
  same : Same es behind (Start f.kind ∷ drop (suc skipped) es) f.behind

abbrev Reached : List Event → ℕ → ℕ → Result Found NoneFound → Type 0
Reached es i behind (Err n) = Same es behind [] 0
Reached es i behind (Ok f) = Starts es i behind f

further : (e : Event) (es : List Event) (i behind b : ℕ) (r : Result Found NoneFound) → Same (e ∷ es) behind es b → Reached es (i + 1) b r
    → Reached (e ∷ es) i behind r
further e es i behind b (Err n) s r = λ bytes ts first p x. s bytes ts first p x ∙ r bytes ts first p x
further e es i behind b (Ok f) s r =
    record {
      skipped = suc r.skipped;
      event = omega (arith, r.event);
      judged = r.judged;
      same = λ bytes ts first p x. s bytes ts first p x ∙ r.same bytes ts first p x;
    }

reached : (es : List Event) (i behind : ℕ) → Reached es i behind (next_judged es i behind)
unfolding next_judged nodes_on
reached [] i behind = λ bytes ts first p x. refl
reached (Start k ∷ es) i behind = by (judged_kind k) refl (reached es (i + 1) behind)
  where
    by : (b : Bool) → judged_kind k ≡ b → Reached es (i + 1) behind (next_judged es (i + 1) behind)
        → Reached (Start k ∷ es) i behind (cond b (Ok (found i k behind)) (next_judged es (i + 1) behind))
    by true e r = record { skipped = 0; event = omega arith; judged = e; same = λ bytes ts first p x. refl }
    by false e r = further (Start k) es i behind _ _ (λ bytes ts first p x. rw e) r
reached (AddToken ∷ es) i behind = further AddToken es i behind _ _ (λ bytes ts first p x. refl) (reached es (i + 1) (low (behind + 1)))
reached (Name n ∷ es) i behind = further (Name n) es i behind _ _ (λ bytes ts first p x. refl) (reached es (i + 1) (low (behind + n)))
reached (Finish ∷ es) i behind = further Finish es i behind _ _ (λ bytes ts first p x. refl) (reached es (i + 1) behind)
reached (Other ∷ es) i behind = further Other es i behind _ _ (λ bytes ts first p x. refl) (reached es (i + 1) behind)

-- ---------------------------------------------------------------- the turns

-- f: what was found. q: the place of its first token. y: what has become of the reports.
pub nodes_again : (bytes : List ℕ) (ts : List Token) (first : ℕ) (l : List Event) (i : ℕ) (f : Found) (p q : Seat) (x y : Out)
    → Ok f ≡ next_judged (drop i l) i 0 → q ≡ solid_after f.behind ts p → y ≡ node_on bytes ts first f.kind (drop (f.event + 1) l) q x
    → nodes_on bytes ts first (drop i l) 0 p x ≡ nodes_on bytes ts first (drop (f.event + 1) l) 0 q y
unfolding nodes_on
nodes_again bytes ts first l i f p q x y e t n =
    let s : Starts (drop i l) i 0 f = subst (Reached (drop i l) i 0) (sym e) (reached (drop i l) i 0) in
    let rest : drop (suc s.skipped) (drop i l) ≡ drop (f.event + 1) l = drop-drop (suc s.skipped) i l ∙ ap (λ k. drop k l) (omega (arith, s.event)) in
    rw (n, t) (s.same bytes ts first p x ∙ rw (s.judged, rest))

pub nodes_none : (bytes : List ℕ) (ts : List Token) (first : ℕ) (l : List Event) (i : ℕ) (n : NoneFound) (p : Seat) (x : Out)
    → Err n ≡ next_judged (drop i l) i 0 → nodes_on bytes ts first (drop i l) 0 p x ≡ x
unfolding nodes_on
nodes_none bytes ts first l i n p x e =
    let s : Same (drop i l) 0 [] 0 = subst (Reached (drop i l) i 0) (sym e) (reached (drop i l) i 0) in
    s bytes ts first p x

-- ---------------------------------------------------------------- once no more reports are written

abbrev Refused : NoMoreReports → List ℕ → On → Type 0
Refused e reports (on w reports') = (w.names ≡ Err e) × (reports' ≡ reports)

event_refused : (bytes : List ℕ) (ts : List Token) (first : ℕ) (v : Event) (e : NoMoreReports) (reports : List ℕ) (x : On)
    → Refused e reports x → Refused e reports (event_on bytes ts first v x)
unfolding event_on token_on name_on reported
event_refused bytes ts first (Start k) e reports (on w r) h = h
event_refused bytes ts first AddToken e reports (on w r) h = h
event_refused bytes ts first (Name n) e reports (on w r) h =
    let end = passed n (drop w.seat.at ts) w.seat in
    let q = at_seat (solid_after 0 ts end) w in
    cond-all (Refused e reports) (eqb w.depth 0 && breaks bytes w.seat.byte end.byte)
    {x = with_names q (reported w.seat.byte end.byte w.seat.at first (out w.names r))} {y = on q r}
    (rw h.0 (refl, h.1)) h
event_refused bytes ts first Finish e reports (on w r) h = h
event_refused bytes ts first Other e reports (on w r) h = h

inside_refused : (bytes : List ℕ) (ts : List Token) (first : ℕ) (es : List Event) (e : NoMoreReports) (reports : List ℕ) (x : On)
    → Refused e reports x → Refused e reports (inside_on bytes ts first es x)
unfolding inside_on
inside_refused bytes ts first [] e reports x h = h
inside_refused bytes ts first (v ∷ es) e reports (on w r) h =
    cond-all (Refused e reports) (ends v w.depth) {x = on w r} {y = inside_on bytes ts first es (event_on bytes ts first v (on w r))}
    h (inside_refused bytes ts first es e reports (event_on bytes ts first v (on w r)) (event_refused bytes ts first v e reports (on w r) h))

settled_refused : (k : ℕ) (e : NoMoreReports) (reports : List ℕ) (x : On) → Refused e reports x → settled k (Err e) x ≡ out (Err e) reports
settled_refused k e reports (on w r) (h, q) = rw (h, q) (cond-all (λ (x : Out). x ≡ out (Err e) reports) (eqb k N.DtPhandle && w.braced) refl refl)

pub nodes_refused : (bytes : List ℕ) (ts : List Token) (first : ℕ) (es : List Event) (b : ℕ) (p : Seat) (e : NoMoreReports) (reports : List ℕ)
    → nodes_on bytes ts first es b p (out (Err e) reports) ≡ out (Err e) reports
unfolding nodes_on node_on
nodes_refused bytes ts first [] b p e reports = refl
nodes_refused bytes ts first (Start k ∷ es) b p e reports =
    let q = solid_after b ts p in
    cond-all (λ (x : Out). x ≡ out (Err e) reports) (judged_kind k)
    (ap (nodes_on bytes ts first es 0 q)
    (settled_refused k e reports _ (inside_refused bytes ts first es e reports (on (walk_at q (Err e)) reports) (refl, refl)))
    ∙ nodes_refused bytes ts first es 0 q e reports)
    (nodes_refused bytes ts first es b p e reports)
nodes_refused bytes ts first (AddToken ∷ es) b p e reports = nodes_refused bytes ts first es _ p e reports
nodes_refused bytes ts first (Name n ∷ es) b p e reports = nodes_refused bytes ts first es _ p e reports
nodes_refused bytes ts first (Finish ∷ es) b p e reports = nodes_refused bytes ts first es b p e reports
nodes_refused bytes ts first (Other ∷ es) b p e reports = nodes_refused bytes ts first es b p e reports
