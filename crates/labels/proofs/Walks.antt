-- A walk through the events inside a node. Deep in it nothing is judged and only the place moves on; what stands
-- directly in it is seen: an LCurly, and the Names that are judged.
use Rattle.std.proofs.Common.{ℕ, suc, ◌+◌, ◌-◌, arith, ◌≡◌, refl, ap, sym, ◌∙◌, Bool, true, false, cond, ◌&&◌, ◌||◌, List, [], ◌∷◌, ◌++◌, append_assoc, eqb, length, drop, not, eqb-true}
use mathlib.Core.Bool.{false≢true}
use Rattle.std.proofs.Math.Bool.{or_assoc, or_comm, or-false}
use Rattle.std.proofs.Math.Dec.{eqb-suc-zero}
use Rattle.definitions.specs.NodeKind as N
use Rattle.definitions.specs.Token.{Token, drop_trivia, past, byte_count}
use Rattle.definitions.specs.Skeleton.{Skeleton, done, token, name, node, ignored, report, over}
use Rattle.definitions.specs.Place.{after}
use Rattle.laws.proofs.Trivia.{drop_twice}
use Rattle.laws.proofs.NamesFound.{Back, back, first_curly, curly, under, found}
use Rattle.sink.specs.Encode.{Chained}
use Rattle.labels.specs.declared.event.Event.{Event}
use Rattle.labels.specs.declared.event.Event.TheVariants.{Start, Finish, Other}
use Rattle.labels.specs.declared.node.Walk.{Walk}
use Rattle.labels.specs.Model.{breaks, out, judged_kind, On, on, with_names, token_on, name_on, event_on, inside_on, settled, node_on, reported, solid_after}
use Rattle.labels.proofs.JudgedNodes.{Plain}
use Rattle.labels.proofs.Taken.{Firsts, Taken}
use Rattle.labels.proofs.Alone.{alone_curly, alone_found}
use Rattle.labels.proofs.Standing.{Rep, held, File, Part, part_past, part_drop, part_solid, part_after, seated, seat_there, passed_seat, solid_there, beyond, beyond_firsts, curly_first, past_drop, pushed, emit, emits, emits_append, reported_held}
use Rattle.labels.proofs.Alike.{Alike, alike_self, emits_undone, back_to}
use Rattle.labels.proofs.Told.{told}

pub not_under : (k : ℕ) (c : Bool) → judged_kind k ≡ false → under k c ≡ false
not_under k c h = go (eqb k N.DtLabel) (eqb k N.DtPhandle) h
  where
    go : (x y : Bool) → (x || y) ≡ false → (x || (y && not c)) ≡ false
    go true y e = e
    go false true e = absurd (false≢true (sym e))
    go false false e = refl

-- no judged node, no judged Name
pub plain_none : (o : Skeleton) (ts : List Token) → Plain o → found false o ts ≡ []
unfolding Plain found
plain_none done ts h = refl
plain_none (token t m o) ts h = plain_none o _ h
plain_none (name raw m o) ts h = plain_none o _ h
plain_none (node k m m' a i o) ts (p, (pa, (pi, po))) =
    let w : List Token = drop_trivia ts in
    let v : List Token = after a w in
    ap (λ (b : Bool). found b a w ++ (found b i v ++ found false o (after i v))) (not_under k (curly a w || curly i v) p)
    ∙ rw (plain_none a w pa, plain_none i v pi, plain_none o (after i v) po) refl
plain_none (ignored m m' a i o) ts (pa, (pi, po)) = rw (plain_none a ts pa, plain_none i (after a ts) pi, plain_none o (after i (after a ts)) po) refl
plain_none (report r o) ts h = plain_none o ts h
plain_none (over m o) ts h = plain_none o ts h

-- a node that is not judged, with no judged node in it
plain_node : (u : Bool) (k m m' : ℕ) (a i o : Skeleton) (ts : List Token) → judged_kind k ≡ false → Plain a → Plain i
    → found u (node k m m' a i o) ts ≡ found u o (after i (after a (drop_trivia ts)))
unfolding found
plain_node u k m m' a i o ts p pa pi =
    let w : List Token = drop_trivia ts in
    let v : List Token = after a w in
    ap (λ (b : Bool). found b a w ++ (found b i v ++ found u o (after i v))) (not_under k (curly a w || curly i v) p)
    ∙ rw (plain_none a w pa, plain_none i v pi) refl

module _ (F : File) where
  abbrev bytes : List ℕ
  bytes = F.bytes

  abbrev all : List Token
  all = F.all

  abbrev first : ℕ
  first = F.first

  -- before these tokens, d nodes deep; b: an LCurly was seen
  abbrev pub walking : List Token → ℕ → Bool → Rep → Walk
  walking ts d b r = record { depth = d; seat = seated F ts; braced = b; names = r.names }

  abbrev pub state : List Token → ℕ → Bool → Rep → On
  state ts d b r = on (walking ts d b r) r.reports

  abbrev inside : List Event → On → On
  inside es x = inside_on bytes all first es x

  -- ---------------------------------------------------------------- a token, a name

  abbrev brace : ℕ → Bool → Bool → Bool
  brace d c b = (eqb d 0 && c) || b

  token_walk : (ts : List Token) (d : ℕ) (b : Bool) (r : Rep) → Part F ts → Firsts 1 (drop_trivia ts)
      → token_on all (walking (drop_trivia ts) d b r) ≡ walking (drop_trivia (past (drop_trivia ts))) d (brace d (first_curly (drop_trivia ts)) b) r
  unfolding token_on
  token_walk ts d b r h f =
      let v : List Token = drop_trivia ts in
      let g : Part F v = part_solid F ts h in
      let e : beyond 1 v ≡ past v = beyond_firsts 1 v f ∙ past_drop v in
      rw (solid_there F 1 v g, seat_there F v g, curly_first v, e) refl

  name_end : (n : ℕ) (v : List Token) → Part F v → solid_after 0 all (seated F (drop n v)) ≡ seated F (drop_trivia (drop n v))
  unfolding beyond
  name_end n v g = solid_there F 0 (drop n v) (part_drop F n v g)

  -- deep in the node, or directly in it
  name_deep : (n : ℕ) (ts : List Token) (d : ℕ) (b : Bool) (r : Rep) → Part F ts
      → name_on bytes all first n (state (drop_trivia ts) (suc d) b r) ≡ state (drop_trivia (drop n (drop_trivia ts))) (suc d) b r
  unfolding name_on
  name_deep n ts d b r h =
      let v : List Token = drop_trivia ts in
      let g : Part F v = part_solid F ts h in
      rw (eqb-suc-zero d, seat_there F v g, passed_seat F n v g, name_end n v g) refl

  name_direct : (n : ℕ) (ts : List Token) (b : Bool) (r : Rep) → Part F ts
      → name_on bytes all first n (state (drop_trivia ts) 0 b r)
      ≡ state (drop_trivia (drop n (drop_trivia ts))) 0 b (emit F (back (drop_trivia ts) (drop n (drop_trivia ts))) r)
  unfolding name_on emit
  name_direct n ts b r h =
      let g : Part F v = part_solid F ts h in
      rw (seat_there F v g, passed_seat F n v g, name_end n v g) (go (breaks bytes start end))
    where
      v : List Token
      v = drop_trivia ts

      u : List Token
      u = drop n v

      start : ℕ
      start = byte_count all - byte_count v

      end : ℕ
      end = byte_count all - byte_count u

      at : ℕ
      at = length all - length v

      go : (c : Bool)
          → cond c (with_names (walking (drop_trivia u) 0 b r) (reported start end at first (held r))) (state (drop_trivia u) 0 b r)
          ≡ state (drop_trivia u) 0 b (cond c (pushed F start end at r) r)
      go true = ap (with_names (walking (drop_trivia u) 0 b r)) (reported_held F r start end at)
      go false = refl

  -- ---------------------------------------------------------------- deep in it

  deep : (o : Skeleton) (ts : List Token) (d : ℕ) (b : Bool) (r : Rep) (es : List Event) → Part F ts → Taken o ts
      → inside (told o ++ es) (state (drop_trivia ts) (suc d) b r) ≡ inside es (state (drop_trivia (after o ts)) (suc d) b r)
  unfolding told after Taken inside_on event_on
  deep done ts d b r es h t = refl
  deep (token x m o) ts d b r es h (f, t) =
      let v : List Token = drop_trivia ts in
      ap (λ (w : Walk). inside (told o ++ es) (on w r.reports)) (token_walk ts (suc d) b r h f)
      ∙ ap (λ (c : Bool). inside (told o ++ es) (state (drop_trivia (past v)) (suc d) ((c && first_curly v) || b) r)) (eqb-suc-zero d)
      ∙ deep o (past v) d b r es (part_past F v (part_solid F ts h)) t
  deep (name raw m o) ts d b r es h (f, t) =
      let v : List Token = drop_trivia ts in
      ap (inside (told o ++ es)) (name_deep (length raw) ts d b r h)
      ∙ deep o (drop (length raw) v) d b r es (part_drop F (length raw) v (part_solid F ts h)) t
  deep (node k m m' a i o) ts d b r es h (ta, (ti, to)) =
      let w : List Token = drop_trivia ts in
      let v : List Token = after a w in
      let hw : Part F w = part_solid F ts h in
      let hv : Part F v = part_after F a w hw in
      let end : List Event = Finish ∷ (told o ++ es) in
      let up : suc d + 1 ≡ suc (suc d) = omega arith in
      let down : suc (suc d) - 1 ≡ suc d = omega arith in
      ap (λ (l : List Event). inside l (state w (suc d) b r)) (append_assoc (told a) (Start k ∷ (told i ++ (Finish ∷ told o))) es)
      ∙ ap (λ (l : List Event). inside (told a ++ (Start k ∷ l)) (state w (suc d) b r)) (append_assoc (told i) (Finish ∷ told o) es)
      ∙ ap (λ (l : List Token). inside (told a ++ (Start k ∷ (told i ++ end))) (state l (suc d) b r)) (sym (drop_twice ts))
      ∙ deep a w d b r (Start k ∷ (told i ++ end)) hw ta
      ∙ ap (λ n. inside (told i ++ end) (state (drop_trivia v) n b r)) up
      ∙ deep i v (suc d) b r end hv ti
      ∙ ap (λ (c : Bool). cond c (state (drop_trivia (after i v)) (suc (suc d)) b r) (inside (told o ++ es) (state (drop_trivia (after i v)) (suc (suc d) - 1) b r))) (eqb-suc-zero (suc d))
      ∙ ap (λ n. inside (told o ++ es) (state (drop_trivia (after i v)) n b r)) down
      ∙ deep o (after i v) d b r es (part_after F i v hv) to
  deep (ignored m m' a i o) ts d b r es h (ta, (ti, to)) =
      let v : List Token = after a ts in
      let hv : Part F v = part_after F a ts h in
      let end : List Event = Other ∷ (told o ++ es) in
      ap (λ (l : List Event). inside l (state (drop_trivia ts) (suc d) b r)) (append_assoc (told a) (Other ∷ (told i ++ (Other ∷ told o))) es)
      ∙ ap (λ (l : List Event). inside (told a ++ (Other ∷ l)) (state (drop_trivia ts) (suc d) b r)) (append_assoc (told i) (Other ∷ told o) es)
      ∙ deep a ts d b r (Other ∷ (told i ++ end)) h ta
      ∙ deep i v d b r end hv ti
      ∙ deep o (after i v) d b r es (part_after F i v hv) to
  deep (report x o) ts d b r es h t = deep o ts d b r es h t
  deep (over m o) ts d b r es h t = deep o ts d b r es h t

  -- ---------------------------------------------------------------- directly in it

  or_none : (b c : Bool) → c ≡ false → (b || c) ≡ b
  or_none b c e = rw e (or-false b)

  -- what stands directly there is seen, and its Names are judged
  direct : (o : Skeleton) (ts : List Token) (b : Bool) (r : Rep) (es : List Event) → Part F ts → Chained o → Plain o → Taken o ts
      → inside (told o ++ es) (state (drop_trivia ts) 0 b r) ≡ inside es (state (drop_trivia (after o ts)) 0 (b || curly o ts) (emits F (found true o ts) r))
  unfolding told after Taken Chained Plain curly found emits inside_on event_on
  direct done ts b r es h c p t = ap (λ (x : Bool). inside es (state (drop_trivia ts) 0 x r)) (sym (or-false b))
  direct (token x m o) ts b r es h c p (f, t) =
      let v : List Token = drop_trivia ts in
      let q : Bool = first_curly v in
      ap (λ (w : Walk). inside (told o ++ es) (on w r.reports)) (token_walk ts 0 b r h f)
      ∙ ap (λ (x : Bool). inside (told o ++ es) (state (drop_trivia (past v)) 0 x r)) (or_comm q b)
      ∙ direct o (past v) (b || q) r es (part_past F v (part_solid F ts h)) c p t
      ∙ ap (λ (x : Bool). inside es (state (drop_trivia (after o (past v))) 0 x (emits F (found true o (past v)) r))) (or_assoc b q (curly o (past v)))
  direct (name raw m o) ts b r es h c p (f, t) =
      let v : List Token = drop_trivia ts in
      let u : List Token = drop (length raw) v in
      ap (inside (told o ++ es)) (name_direct (length raw) ts b r h)
      ∙ direct o u b (emit F (back v u) r) es (part_drop F (length raw) v (part_solid F ts h)) c p t
  direct (node k m m' a i o) ts b r es h (alone, (ca, (ci, co))) (pk, (pa, (pi, po))) (ta, (ti, to)) =
      let w : List Token = drop_trivia ts in
      let v : List Token = after a w in
      let x : List Token = after i v in
      let hw : Part F w = part_solid F ts h in
      let hv : Part F v = part_after F a w hw in
      let end : List Event = Finish ∷ (told o ++ es) in
      let none-a : found true a w ≡ [] = alone_found true false a w alone ∙ plain_none a w pa in
      let all_found : found true (node k m m' a i o) ts ≡ found true o x = plain_node true k m m' a i o ts pk pa pi in
      ap (λ (l : List Event). inside l (state w 0 b r)) (append_assoc (told a) (Start k ∷ (told i ++ (Finish ∷ told o))) es)
      ∙ ap (λ (l : List Event). inside (told a ++ (Start k ∷ l)) (state w 0 b r)) (append_assoc (told i) (Finish ∷ told o) es)
      ∙ ap (λ (l : List Token). inside (told a ++ (Start k ∷ (told i ++ end))) (state l 0 b r)) (sym (drop_twice ts))
      ∙ direct a w b r (Start k ∷ (told i ++ end)) hw ca pa ta
      ∙ ap (λ (y : Bool). inside (Start k ∷ (told i ++ end)) (state (drop_trivia v) 0 y (emits F (found true a w) r))) (or_none b (curly a w) (alone_curly a w alone))
      ∙ ap (λ (l : List Back). inside (Start k ∷ (told i ++ end)) (state (drop_trivia v) 0 b (emits F l r))) none-a
      ∙ deep i v 0 b r end hv ti
      ∙ direct o x b r es (part_after F i v hv) co po to
      ∙ ap (λ (l : List Back). inside es (state (drop_trivia (after o x)) 0 (b || curly o x) (emits F l r))) (sym all_found)
  direct (ignored m m' a i o) ts b r es h (alone, (ca, (ci, co))) (pa, (pi, po)) (ta, (ti, to)) =
      let v : List Token = after a ts in
      let x : List Token = after i v in
      let hv : Part F v = part_after F a ts h in
      let end : List Event = Other ∷ (told o ++ es) in
      let f : List Back = found true a ts in
      let g : List Back = found true i v in
      let k : List Back = found true o x in
      ap (λ (l : List Event). inside l (state (drop_trivia ts) 0 b r)) (append_assoc (told a) (Other ∷ (told i ++ (Other ∷ told o))) es)
      ∙ ap (λ (l : List Event). inside (told a ++ (Other ∷ l)) (state (drop_trivia ts) 0 b r)) (append_assoc (told i) (Other ∷ told o) es)
      ∙ direct a ts b r (Other ∷ (told i ++ end)) h ca pa ta
      ∙ direct i v (b || curly a ts) (emits F f r) end hv ci pi ti
      ∙ direct o x ((b || curly a ts) || curly i v) (emits F g (emits F f r)) es (part_after F i v hv) co po to
      ∙ ap (λ (y : Bool). inside es (state (drop_trivia (after o x)) 0 y (emits F k (emits F g (emits F f r)))))
      (or_assoc (b || curly a ts) (curly i v) (curly o x) ∙ or_assoc b (curly a ts) (curly i v || curly o x))
      ∙ ap (λ (q : Rep). inside es (state (drop_trivia (after o x)) 0 (b || (curly a ts || (curly i v || curly o x))) q))
      (sym (emits_append F f (g ++ k) r ∙ emits_append F g k (emits F f r)))
  direct (report y o) ts b r es h c p t = direct o ts b r es h c p t
  direct (over m o) ts b r es h c p t = direct o ts b r es h c p t

  -- ---------------------------------------------------------------- the whole node

  -- these events go no further: there are none, or they begin with the end of the node
  abbrev pub Closes : List Event → Type 0
  Closes es = (ts : List Token) (b : Bool) (r : Rep) → inside es (state ts 0 b r) ≡ state ts 0 b r

  pub no_more : Closes []
  unfolding inside_on
  no_more ts b r = refl

  pub finishes : (es : List Event) → Closes (Finish ∷ es)
  unfolding inside_on
  finishes es ts b r = refl

  -- THE NAMES OF A JUDGED NODE: those that are judged are reported
  pub record Node-judged (k : ℕ) (i : Skeleton) (ts : List Token) (es : List Event) (r : Rep) : Type 0 where
    pub last : Rep
    pub alike : Alike (emits F (found (under k (curly i ts)) i ts) r) last
    pub runs : node_on bytes all first k (told i ++ es) (seated F (drop_trivia ts)) (held r) ≡ held last

  pub node_judged : (k : ℕ) (i : Skeleton) (ts : List Token) (es : List Event) (r : Rep) → judged_kind k ≡ true → Part F ts → Chained i → Plain i → Taken i ts → Closes es
      → Node-judged k i ts es r
  unfolding node_on emits
  node_judged k i ts es r jk h c p t e = go (eqb k N.DtLabel) refl (eqb k N.DtPhandle) refl (curly i ts) refl jk
    where
      names : Rep
      names = emits F (found true i ts) r

      inner : inside (told i ++ es) (state (drop_trivia ts) 0 false r) ≡ state (drop_trivia (after i ts)) 0 (curly i ts) names
      inner = direct i ts false r es h c p t ∙ e (drop_trivia (after i ts)) (curly i ts) names

      by : (y z : Bool) → eqb k N.DtPhandle ≡ y → curly i ts ≡ z
          → node_on bytes all first k (told i ++ es) (seated F (drop_trivia ts)) (held r)
          ≡ cond (y && z) (out r.names names.reports) (held names)
      by y z f g = ap (settled k r.names) inner ∙ rw (f, g) refl

      go : (x : Bool) → eqb k N.DtLabel ≡ x → (y : Bool) → eqb k N.DtPhandle ≡ y → (z : Bool) → curly i ts ≡ z → (x || y) ≡ true → Node-judged k i ts es r
      go true a true f z g q =
          let m : k ≡ N.DtLabel = eqb-true k N.DtLabel a in
          let n : k ≡ N.DtPhandle = eqb-true k N.DtPhandle f in
          absurd (omega arith)
      go true a false f z g q = record { last = names; alike = rw a (alike_self names); runs = by false z f g }
      go false a true f false g q = record { last = names; alike = rw (a, f, g) (alike_self names); runs = by true false f g }
      go false a true f true g q =
          record {
            last = back_to F r names.reports;
            alike = rw (a, f, g, plain_none i ts p) (emits_undone F (found true i ts) r);
            runs = by true true f g;
          }
      go false a false f z g q = absurd (false≢true q)
