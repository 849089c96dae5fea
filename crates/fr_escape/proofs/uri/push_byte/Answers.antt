use Rattle.std.proofs.Common.{sym, ◌∙◌, true}
use Rattle.std.proofs.lemmas.Fmt.{hex_byte}
use Rattle.fr_escape.proofs.UriLaws.{uri_byte_escaped}
use Rattle.fr_escape.proofs.uri.push_byte.Goals as goal

pub returns-else-stays : goal.returns-else-stays
returns-else-stays c =
    let small = c.ranges.byte.fits in
    let written = rw (c.in_radix.ensures, c.laid_out.ensures, hex_byte true c.args.byte small) at c.write.ensures.bytes in
    rw (uri_byte_escaped c.args.byte small (sym c.stays.ensures ∙ c.if-stays.false)) written
