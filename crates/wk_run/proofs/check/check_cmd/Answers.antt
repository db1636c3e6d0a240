-- What was read is judged whole, and what is written is the line on it.
use Rattle.std.proofs.Common.{◌∙◌, ℕ, List, Err, ap, subst}
use Rattle.std.specs.Prelude.{Option}
use Rattle.std.specs.Io.KnownBytes.{Appends}
use Rattle.wk_run.specs.Check.{IsFaultOf, IsLegalText, ReadsIllegal}
use Rattle.wk_run.specs.Input.{WritesPart}
use Rattle.wk_run.specs.declared.check.CheckError.{CheckError}
use Rattle.wk_run.proofs.CheckLaws.{fault-not_legal, journals-read}
use Rattle.wk_run.proofs.check.check_cmd.Goals as goal

pub returns-in-Err-clause-illegal : goal.returns-in-Err-clause-illegal
returns-in-Err-clause-illegal g c = λ why same.
    let faulty = (c.status_of.ensures.illegal why).0 same in
    let found : IsFaultOf c.as_slice.result.now why = c.in-Err.ensures.illegal why (ap (λ (e : CheckError). Err e) faulty) in
    let is : IsFaultOf c.in-Ok.bytes.items why = subst (λ (b : List ℕ). IsFaultOf b why) c.as_slice.ensures.value found in
    record {
      read = c.in-Ok.bytes.items;
      input = c.in-Ok.ensures.read;
      is_fault = is;
      no_legal = fault-not_legal c.in-Ok.bytes.items why is;
    }

pub returns-in-Err-clause-no_legal : goal.returns-in-Err-clause-no_legal
returns-in-Err-clause-no_legal g c = λ why same bytes journals told legal.
    let left = g.S.Source.remaining c.read_input.new.input in
    let refused : ReadsIllegal (g.S.Source.remaining c.args.input.now) left why = returns-in-Err-clause-illegal g c why same in
    journals-read bytes journals left why (c.texts_are_bounded.ensures.within bytes journals legal.says) legal
    (subst (λ (held : Option (List ℕ)). ReadsIllegal held left why) told refused)

pub returns-in-Ok-write_output-clause-ok : goal.returns-in-Ok-write_output-clause-ok
returns-in-Ok-write_output-clause-ok g c = λ _.
    let found = c.in-Ok-verdict_line.ensures.line in
    let legal : IsLegalText c.in-Ok.bytes.items found.0 = subst (λ (b : List ℕ). IsLegalText b found.0) c.as_slice.ensures.value found.1 in
    record {
      journals = found.0;
      reads = record {
        read = c.in-Ok.bytes.items;
        taken = c.in-Ok.ensures.read.taken;
        to_end = c.in-Ok.ensures.read.to_end (c.texts_are_bounded.ensures.within c.in-Ok.bytes.items found.0 legal.says);
        is_legal = legal;
      };
      writes = subst (λ (b : List ℕ). Appends (g.K.Sink.taken c.args.out.now) (g.K.Sink.taken c.write_output.new.out) b)
          (c.as_bytes.ensures.value ∙ found.2) c.in-Ok-write_output.ensures.written;
    }

pub returns-clause-write_fault : goal.returns-clause-write_fault
returns-clause-write_fault g c = λ _.
    let found = c.in-Ok-verdict_line.ensures.line in
    let legal : IsLegalText c.in-Ok.bytes.items found.0 = subst (λ (b : List ℕ). IsLegalText b found.0) c.as_slice.ensures.value found.1 in (
      c.in-Err-write_output.ensures.cause,
      record {
        journals = found.0;
        reads = record {
          read = c.in-Ok.bytes.items;
          taken = c.in-Ok.ensures.read.taken;
          to_end = c.in-Ok.ensures.read.to_end (c.texts_are_bounded.ensures.within c.in-Ok.bytes.items found.0 legal.says);
          is_legal = legal;
        };
        writes = subst (λ (b : List ℕ). WritesPart (g.K.Sink.taken c.args.out.now) (g.K.Sink.taken c.write_output.new.out) b)
            (c.as_bytes.ensures.value ∙ found.2) c.in-Err-write_output.ensures.part;
      },
    )
