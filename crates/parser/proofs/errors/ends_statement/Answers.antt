-- `ends_statement`: one code, two codes, or neither.
use Rattle.std.proofs.Common.{rules, arith, ◌≡◌, get_or}
use Rattle.std.specs.Prelude.{◌≢◌}
use Rattle.std.proofs.lemmas.Bool.{ne_eqb}
use Rattle.parser.proofs.Lists.{only_one, only_two, only_none, only_many}
use Rattle.parser.proofs.errors.ends_statement.Goals as goal

pub returns-in-29 : goal.returns-in-29
returns-in-29 c = let e : get_or c.args.codes.now 0 0 ≡ 29 = search rules in rw (only_one c.args.codes.now (omega arith) (omega arith), e)

pub returns-in-29-2 : goal.returns-in-29-2
returns-in-29-2 c = let e : get_or c.args.codes.now 0 0 ≡ 2 = search rules in rw (only_one c.args.codes.now (omega arith) (omega arith), e)

pub returns-in-29-3 : goal.returns-in-29-3
returns-in-29-3 c =
    let e : get_or c.args.codes.now 0 0 ≡ 2 = search rules in
    let f : get_or c.args.codes.now 1 0 ≡ 29 = search rules in
    rw (only_two c.args.codes.now (omega arith) (omega arith), e, f)

pub returns-in_default : goal.returns-in_default
returns-in_default c = only_none c.args.codes.now (omega arith)

pub returns-in_default-2 : goal.returns-in_default-2
returns-in_default-2 c =
    let e : get_or c.args.codes.now 0 0 ≢ 29 = search rules in
    let f : get_or c.args.codes.now 0 0 ≢ 2 = search rules in
    rw (only_one c.args.codes.now (omega arith) (omega arith), ne_eqb _ 29 e, ne_eqb _ 2 f)

pub returns-in_default-3 : goal.returns-in_default-3
returns-in_default-3 c =
    let e : get_or c.args.codes.now 0 0 ≡ 2 = search rules in
    let f : get_or c.args.codes.now 1 0 ≢ 29 = search rules in
    rw (only_two c.args.codes.now (omega arith) (omega arith), e, ne_eqb _ 29 f)

pub returns-in_default-4 : goal.returns-in_default-4
returns-in_default-4 c =
    let e : get_or c.args.codes.now 0 0 ≢ 2 = search rules in
    rw (only_two c.args.codes.now (omega arith) (omega arith), ne_eqb _ 2 e)

pub returns-in_default-5 : goal.returns-in_default-5
returns-in_default-5 c = only_many c.args.codes.now (omega arith)
