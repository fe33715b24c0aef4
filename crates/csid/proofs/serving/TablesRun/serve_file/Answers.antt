use Rattle.std.proofs.Common.{inl, inr, refl, sym, subst, Some}
use Rattle.std.specs.Fmt.{option_append}
use Rattle.csid_settings.specs.Statuses.{IsOrNoMemory}
use Rattle.csid.specs.Serving.{IsServed}
use Rattle.csid.proofs.serving.TablesRun.serve_file.Goals as goal

pub returns-in-Err : goal.returns-in-Err
returns-in-Err g c = (
  option_append (Some c.args.sent.now) (g.R.Read.remaining c.args.reader.now),
  inl ((refl, refl), (subst (IsOrNoMemory 4) (sym c.unserved.ensures.0) c.in-Err.ensures, c.unserved.ensures.1)),
)

pub returns : goal.returns
returns g c =
    subst (λ unread. IsServed g.S.Start c.args.self.now.config.now c.args.self.now.file unread (g.W.Write.contents c.args.writer.now) (g.W.Write.contents c.serve_path-outcome.new.writer) c.outcome_of.result)
    c.chain.ensures.bytes (
      _,
      inr (
        c.serve_path-outcome.result,
        record {
          served = c.serve_path-outcome.ensures.served;
          after = c.serve_path-outcome.ensures.after;
          usable = c.serve_path-outcome.ensures.usable;
          alone = c.serve_path-outcome.ensures.alone;
          writes = c.serve_path-outcome.ensures.writes;
          none_refused = c.serve_path-outcome.ensures.none_refused;
          uncopied = c.serve_path-outcome.ensures.uncopied;
          existing = c.serve_path-outcome.ensures.existing;
          not_served = c.serve_path-outcome.ensures.not_served;
        },
        c.outcome_of.ensures,
      ),
    )
