use Rattle.std.proofs.Common.{inl}
use Rattle.csi_client.proofs.Statuses.{code_of}
use Rattle.csi_client.proofs.showing.Printer.show.Goals as goal

pub returns-in-Ok-write_lines-2-clause-shows : goal.returns-in-Ok-write_lines-2-clause-shows
returns-in-Ok-write_lines-2-clause-shows g c =
    let status = code_of c.args.reply.now.status c.requires.status in (
      c.make_lines.new.self.lines.items,
      record { code = status.0; status = status.1; readable = c.in-Ok.ensures.readable; lines_are = c.in-Ok.ensures.ok status.0 status.1 },
      c.in-Ok-write_lines-2.ensures.all,
    )

pub returns-in-Err-write_lines-clause-shows : goal.returns-in-Err-write_lines-clause-shows
returns-in-Err-write_lines-clause-shows g c =
    let status = code_of c.args.reply.now.status c.requires.status in (
      c.make_lines.new.self.lines.items,
      inl (record { code = status.0; status = status.1; readable = c.in-Ok.ensures.readable; lines_are = c.in-Ok.ensures.ok status.0 status.1 }),
      c.in-Err-write_lines.ensures.part,
    )
