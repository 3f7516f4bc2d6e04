-- The parts of an input.
use Rattle.std.specs.Prelude.{ℕ, ◌+◌, cond, List, length, take, drop, Ok, Err, Result, ◌==◌, nat_le, nat_lt}
use Rattle.bundle.specs.declared.fault.BundleFault.{BundleFault}
use Rattle.bundle.specs.declared.fault.BundleFault.TheVariants.{Short, Kind}
use Rattle.bundle.specs.Bundles.{kind_in}
use Rattle.query.specs.declared.line.Query.{Query}
use Rattle.query.specs.declared.line.QueryFault.{QueryFault}
use Rattle.query.specs.declared.line.QueryFault.TheVariants.{Input, Line}
use Rattle.query.specs.Queries.{before, query_in, or_line}
use Rattle.reply.specs.declared.input.FileKind.{FileKind}
use Rattle.reply.specs.declared.input.FileKind.TheVariants.{Scanner, Station}

-- the query line: what stands before the first line feed, or all
abbrev pub query_line : List ℕ → List ℕ
query_line input = take (before 10 input) input

-- the bundle: what stands behind that line feed
abbrev pub bundle_part : List ℕ → List ℕ
bundle_part input = drop (before 10 input + 1) input

-- the query of an input that is not too long and has a line feed
abbrev pub requested : List ℕ → Result Query QueryFault
requested input =
    cond (nat_le (length input) 32768) (cond (nat_lt (before 10 input) (length input)) (or_line (query_in (query_line input))) (Err Line)) (Err Input)

-- the kind of a number
abbrev pub kind_numbered : ℕ → Result FileKind BundleFault
kind_numbered n = cond (n == 1) (Ok Scanner) (cond (n == 2) (Ok Station) (Err Kind))

-- the kind that a bundle file names
abbrev pub kind_for : List ℕ → Result FileKind BundleFault
kind_for file = cond (nat_le 8 (length file)) (kind_numbered (kind_in file)) (Err Short)
