-- Digits that tell a number are one of 32 bits.
use Rattle.std.proofs.Common.{arith}
use Rattle.stock_words.proofs.NumberWords.{number-parses}
use Rattle.stock_words.proofs.number_words.number_in.Goals as goal

pub returns-in_default-3 : goal.returns-in_default-3
returns-in_default-3 c n number = c.in_default.ensures.value.0 (number-parses c.args.most c.args.word.now n (omega arith) number)
