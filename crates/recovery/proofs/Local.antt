-- RECOVERY STAYS LOCAL: the third promise, proved for two accepted source files in the same setting.
use Prim.Native.Nat.{ℕ, suc, ◌+◌, ◌≤◌}
use native.Mathlib.Omega.{arith}
use mathlib.Core.Path.{◌≡◌, refl, ap, sym, ◌∙◌, subst}
use mathlib.Core.List.{List, [], ◌∷◌, ◌++◌, map}
use lib.ListN.{length, drop, length-append}
use Rattle.definitions.specs.Token.{Token, byte_count}
use Rattle.definitions.specs.Grammar.{SourceFile}
use Rattle.definitions.specs.Skeleton.{Report}
use Rattle.definitions.specs.Report.{pool}
use Rattle.definitions.specs.Strict.{NameAt}
use Rattle.definitions.specs.Call.{run_entry, names_of}
use Rattle.laws.proofs.Skeleton.{bytes_append, pool_append}
use Rattle.rows.specs.ResultRows.{Row, tree_rows, report_rows, expectations}
use Rattle.recovery.specs.Recovery.{File, result, Accepted, Semicolon, token_index, start_byte, row_number, those, later_error, later_report, pool_before, Moved, Pairwise, TreeMoved, ErrorMoved, ReportMoved, later_errors, later_reports, places, StaysLocal}
use Rattle.recovery.proofs.Told.{All, all_map, told}
use Rattle.recovery.proofs.Inside.{Inside, entry_inside}
use Rattle.recovery.proofs.Turns.{children}
use Rattle.rows.proofs.Written.{rows_of}
use Rattle.recovery.proofs.Written.{errors_of, reports_of, name_rows, file_tokens, told_of, Wrote, wrote}
use Rattle.recovery.proofs.Tail.{Tail, tail}
use Rattle.recovery.proofs.LaterRows.{stays, rows_moved}
use Rattle.recovery.proofs.LaterErrors.{those_append, errors_later, errors_moved}
use Rattle.recovery.proofs.NamesApart.{shift, names_same, NamesApart}
use Rattle.recovery.proofs.LaterReports.{reports_later, reports_before, reports_moved}
use Rattle.recovery.proofs.LaterNames.{names_later, names_before, names_moved, pairwise_append}

after_head : (ps : List Token) (t : Token) (us : List Token) → drop (suc (length ps)) (ps ++ (t ∷ us)) ≡ us
after_head [] t us = refl
after_head (p ∷ ps) t us = after_head ps t us

-- the Names that a setting reports of `rest`, by itself: the bytes after byte p are its own
abbrev own_names : File → ℕ → List Token → List NameAt
own_names f p rest = names_of f.setting SourceFile (drop (suc p) f.bytes) rest

-- The rows of its reports and of some Names', with a semicolon at token i and byte p before it, and the expectations
-- `early`.
abbrev late_rows : ℕ → ℕ → List ℕ → List Token → List NameAt → List Row
late_rows i p early rest l =
    reports_of (i + suc (length rest)) (p + suc (byte_count rest)) (length early) (told (run_entry SourceFile rest))
    ++ name_rows (length (early ++ pool (told (run_entry SourceFile rest)))) (map (shift (suc i) (suc p)) l)

-- what one file has after its semicolon
pub record Later (f : File) (s : Semicolon (tree_rows (result f))) (rest : List Token) : Type 0 where
  pub tokens_after : drop (suc (token_index s)) (file_tokens f) ≡ rest
  pub parts : s.later ≡ rows_of 0 (suc (row_number s)) (children (run_entry SourceFile rest) rest)
  pub errors : later_errors f s ≡ errors_of (suc (start_byte s)) rest
  pub early : List ℕ
  pub reports : later_reports f s ≡ late_rows (token_index s) (start_byte s) early rest (own_names f (start_byte s) rest)
  pub pool_before : (places f s).pool_place ≡ length early
  pub pool : expectations (result f) ≡ early ++ pool (told (run_entry SourceFile rest))

later : (f : File) → Accepted f → (s : Semicolon (tree_rows (result f))) → (rest : List Token) × Later f s rest
unfolding byte_count
later f h s =
    let W : Wrote f = wrote f h in
    let T : Tail f s = tail f h s in
    let us : List Token = T.rest in
    let late : List Report = told (run_entry SourceFile us) in
    let n : length (file_tokens f) ≡ token_index s + suc (length us) = ap length T.file ∙ length-append T.head _ ∙ ap (◌+ suc (length us)) (sym T.at_index) in
    let b : byte_count (file_tokens f) ≡ start_byte s + suc (byte_count us) =
    ap byte_count T.file ∙ bytes_append T.head _ ∙ ap (λ (x : ℕ). byte_count T.head + (x + byte_count us)) T.one_byte_long ∙ (let z : byte_count T.head + (1 + byte_count us) ≡ start_byte s + suc (byte_count us) = omega (arith, T.at_byte) in z) in
    let inside : All (λ r. r.mark ≤ length us) late = all_map (Inside (length us) (byte_count us)) _ (λ r I. I.marked) late (entry_inside SourceFile us) in
    let w : pool (told_of f) ≡ pool T.early ++ pool late = ap pool T.reports ∙ pool_append T.early late in
    let Apart : ℕ → ℕ → Type 0 = NamesApart f.setting f.bytes (file_tokens f) us in
    let N : Apart (token_index s) (start_byte s) = subst (Apart (token_index s)) (sym T.at_byte) (subst (λ (x : ℕ). Apart x (byte_count T.head)) (sym T.at_index) T.names) in
    let told-rows : List Row = reports_of (token_index s + suc (length us)) (start_byte s + suc (byte_count us)) 0 (T.early ++ late) in
    let names : List NameAt = N.early ++ map (shift (suc (token_index s)) (suc (start_byte s))) (own_names f (start_byte s) us) in
    let rows : report_rows (result f) ≡ told-rows ++ name_rows (length (pool T.early ++ pool late)) names =
    W.reports ∙ (λ i. reports_of (n i) (b i) 0 (T.reports i) ++ name_rows (length (w i)) (N.is i)) in (
      us,
      record {
        tokens_after = ap (λ (x : ℕ). drop (suc x) (file_tokens f)) T.at_index ∙ ap (drop (suc (length T.head))) T.file ∙ after_head T.head T.semicolon us;
        parts = T.parts;
        errors =
            (λ i. those (later_error (T.at_byte i)) ((W.errors ∙ ap (errors_of 0) T.file) i))
            ∙ errors_later T.head T.semicolon us T.one_byte_long T.no_error
            ∙ ap (λ (x : ℕ). errors_of (suc x) us) (sym T.at_byte);
        early = pool T.early;
        reports =
            ap (those (later_report (token_index s))) rows
            ∙ those_append (later_report (token_index s)) told-rows _
            ∙ (λ i.
            reports_later (token_index s) (length us) (start_byte s + suc (byte_count us)) T.early late T.above inside i
            ++ names_later (token_index s) (start_byte s) (length (pool T.early ++ pool late)) N.early (own_names f (start_byte s) us) N.not_after i);
        pool_before =
            ap (pool_before (token_index s)) rows
            ∙ names_before (token_index s) (length (pool T.early ++ pool late)) told-rows names
            ∙ reports_before (token_index s) (length us) (start_byte s + suc (byte_count us)) T.early late T.above inside;
        pool = W.pool ∙ w;
      },
    )

-- THE THIRD PROMISE
pub stays_local : StaysLocal
stays_local f g S hf hg a b A =
    let F = later f hf a in
    let us : List Token = F.0 in
    let X : Later f a us = F.1 in
    let G = later g hg b in
    let same : G.0 ≡ us = sym G.1.tokens_after ∙ sym A.same_tokens ∙ X.tokens_after in
    let Y : Later g b us = subst (Later g b) same G.1 in
    let late : List Report = told (run_entry SourceFile us) in
    let p : List ℕ = expectations (result f) in
    let q : List ℕ = expectations (result g) in
    let moved : Moved (places f a).pool_place (places g b).pool_place (length X.early) (length Y.early) = omega (arith, X.pool_before, Y.pool_before) in
    let names : List NameAt = own_names f (start_byte a) us in
    let same_names : own_names g (start_byte b) us ≡ names = names_same g.setting f.setting (drop (suc (start_byte b)) g.bytes) (drop (suc (start_byte a)) f.bytes) us (sym S) (sym A.same_bytes) in
    let after : Moved (places f a).pool_place (places g b).pool_place (length (X.early ++ pool late)) (length (Y.early ++ pool late)) = omega (arith, length-append X.early (pool late), length-append Y.early (pool late)) in
    record {
      parts =
          subst (λ l. Pairwise (TreeMoved (row_number a) (row_number b)) l b.later) (sym X.parts)
          (subst (Pairwise (TreeMoved (row_number a) (row_number b)) _) (sym Y.parts)
          (rows_moved (row_number a) (row_number b) (children (run_entry SourceFile us) us) 0 0 (suc (row_number a)) (suc (row_number b)) (stays refl refl) (omega arith) (omega arith) (omega arith)));
      errors = subst (λ l. Pairwise (ErrorMoved (start_byte a) (start_byte b)) l (later_errors g b)) (sym X.errors) (subst (Pairwise (ErrorMoved (start_byte a) (start_byte b)) (errors_of (suc (start_byte a)) us)) (sym Y.errors) (errors_moved (start_byte a) (start_byte b) (suc (start_byte a)) (suc (start_byte b)) (omega arith) us));
      reports =
          subst (λ l. Pairwise (ReportMoved (places f a) (places g b) p q) l (later_reports g b)) (sym X.reports)
          (subst (Pairwise (ReportMoved (places f a) (places g b) p q) _) (sym (Y.reports ∙ ap (late_rows (token_index b) (start_byte b) Y.early us) same_names))
          (pairwise_append (ReportMoved (places f a) (places g b) p q) _ _ _ _
          (reports_moved (length us) (byte_count us) (places f a) (places g b) p q X.early Y.early late (entry_inside SourceFile us) X.pool Y.pool moved)
          (names_moved (places f a) (places g b) p q (length (X.early ++ pool late)) (length (Y.early ++ pool late)) after names)));
    }
