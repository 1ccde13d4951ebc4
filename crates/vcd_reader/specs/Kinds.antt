-- The numbers of the kinds of faults, and their texts.
use Rattle.std.specs.Prelude.{ℕ, List, codes}
use Rattle.vcd_reader.specs.declared.fault.DumpKind.{DumpKind}
use Rattle.vcd_reader.specs.declared.fault.DumpKind.TheVariants.{BadHeader, BadChange, UnknownCode, VectorTooLong, TimeBack, Truncated, LongCode, Gap, DeepScope, DumpTooLong, TimeTooLarge, HeaderTooLong}

-- the number of a kind in messages
abbrev pub kind_number : DumpKind → ℕ
kind_number BadHeader = 1
kind_number BadChange = 2
kind_number UnknownCode = 3
kind_number VectorTooLong = 4
kind_number TimeBack = 5
kind_number Truncated = 6
kind_number LongCode = 7
kind_number Gap = 8
kind_number DeepScope = 9
kind_number DumpTooLong = 10
kind_number TimeTooLarge = 11
kind_number HeaderTooLong = 12

-- the number and the name of a kind, as messages have them
abbrev pub kind_text : DumpKind → List ℕ
kind_text BadHeader = codes "1 BadHeader"
kind_text BadChange = codes "2 BadChange"
kind_text UnknownCode = codes "3 UnknownCode"
kind_text VectorTooLong = codes "4 VectorTooLong"
kind_text TimeBack = codes "5 TimeBack"
kind_text Truncated = codes "6 Truncated"
kind_text LongCode = codes "7 LongCode"
kind_text Gap = codes "8 Gap"
kind_text DeepScope = codes "9 DeepScope"
kind_text DumpTooLong = codes "10 DumpTooLong"
kind_text TimeTooLarge = codes "11 TimeTooLarge"
kind_text HeaderTooLong = codes "12 HeaderTooLong"
