use Rattle.std.proofs.Common.{rules}
use Rattle.json.proofs.Printed.Decimals.{IsNumber-decimal, IsNumber-signed_decimal}
use Rattle.fr_formats.proofs.piece.Out.put_piece.Goals as goal

pub put_member-requires-in-Integer : goal.put_member-requires-in-Integer
put_member-requires-in-Integer c = search (rules, IsNumber-signed_decimal)

pub put_member-requires-in-Number : goal.put_member-requires-in-Number
put_member-requires-in-Number c = rw c.format-in-Number.ensures.text (IsNumber-decimal c.in-Number-1.n (search rules))
