-- The worked cases.
use Rattle.std.specs.Prelude.{◌≡◌, List, [], ◌∷◌, ℕ}
use Rattle.event.specs.Scanners as scanners
use Rattle.event.specs.Stations as stations
use Rattle.bundle.specs.Tapes.{tapes}
use Rattle.matching.specs.Support.{support}
use Rattle.matching.specs.Learning.{learned}
use Rattle.law.specs.Transcripts.{Open, Skip, Raise, Probe, Tell, accepted, pattern, end, counted, told}
use Rattle.grammar.specs.declared.mark.Mark.TheVariants.{Leaf, Star}
use Rattle.grammar.specs.Grammar.{Reads, expression}
use Rattle.expression.specs.Marks.{marks_in, leaves_in}
use Rattle.worked.specs.Bundles.{codes, events, offsets, reports, opened, session, next, answers, said}
use Rattle.worked.specs.Endings.{ending, ending_leaves, ending_tree, next_ending}

-- the support of a list of codes in the five tapes
abbrev pub support_of : List ℕ → ℕ
support_of ns = support scanners.order_of (tapes events offsets) (codes ns)

pub record Worked : Type 0 where
  -- supports: 10 10 has 1, 20 30 has 1, 30 30 has 0
  pub twice : support_of (10 ∷ 10 ∷ []) ≡ 1
  pub across : support_of (20 ∷ 30 ∷ []) ≡ 1
  pub never : support_of (30 ∷ 30 ∷ []) ≡ 0
  -- the lexicon learned from the five tapes
  pub lexicon : learned scanners.order_of events ≡ codes (10 ∷ 20 ∷ 30 ∷ 40 ∷ [])
  -- threshold 2, length 3: the whole list, and six patterns told
  pub whole :
      said (session 2 3 ∷ next ∷ next ∷ next ∷ next ∷ next ∷ next ∷ next ∷ Tell ∷ [])
      ≡ accepted
      ∷ pattern (10 ∷ []) 4
      ∷ pattern (10 ∷ 20 ∷ []) 2
      ∷ pattern (10 ∷ 30 ∷ []) 2
      ∷ pattern (20 ∷ []) 3
      ∷ pattern (20 ∷ 10 ∷ []) 2
      ∷ pattern (30 ∷ []) 3
      ∷ end
      ∷ told 2 6
      ∷ []
  -- after 10, skip
  pub skipping :
      said (session 2 3 ∷ next ∷ Skip ∷ next ∷ next ∷ next ∷ next ∷ [])
      ≡ accepted
      ∷ pattern (10 ∷ []) 4
      ∷ accepted
      ∷ pattern (20 ∷ []) 3
      ∷ pattern (20 ∷ 10 ∷ []) 2
      ∷ pattern (30 ∷ []) 3
      ∷ end
      ∷ []
  -- after 10 20, raise to 3
  pub raising :
      said (session 2 3 ∷ next ∷ next ∷ Raise 3 ∷ next ∷ next ∷ next ∷ [])
      ≡ accepted
      ∷ pattern (10 ∷ []) 4
      ∷ pattern (10 ∷ 20 ∷ []) 2
      ∷ accepted
      ∷ pattern (20 ∷ []) 3
      ∷ pattern (30 ∷ []) 3
      ∷ end
      ∷ []
  -- threshold 5
  pub high : said (session 5 3 ∷ next ∷ []) ≡ accepted ∷ end ∷ []
  -- after 20 10, probe 30
  pub probing :
      said (session 2 3 ∷ next ∷ next ∷ next ∷ next ∷ next ∷ Probe (scanners.coded 30) ∷ [])
      ≡ accepted
      ∷ pattern (10 ∷ []) 4
      ∷ pattern (10 ∷ 20 ∷ []) 2
      ∷ pattern (10 ∷ 30 ∷ []) 2
      ∷ pattern (20 ∷ []) 3
      ∷ pattern (20 ∷ 10 ∷ []) 2
      ∷ counted 1
      ∷ []
  -- no tapes
  pub none : answers scanners.order_of (Open (opened scanners.order_of [] (0 ∷ []) 1 3) ∷ next ∷ []) ≡ accepted ∷ end ∷ []
  -- a tape of 12:d from the stations 7 and 9: the lexicon has station 7, and 12:d 12:d has support 1
  pub stationed : learned stations.order_of reports ≡ stations.reported 12 0 7 ∷ []
  pub reported :
      answers stations.order_of (Open (opened stations.order_of reports (0 ∷ 2 ∷ []) 1 2) ∷ next ∷ next ∷ next ∷ [])
      ≡ accepted ∷ pattern (0 ∷ []) 1 ∷ pattern (0 ∷ 0 ∷ []) 1 ∷ end ∷ []
  -- the expression `.*30`: its marks, what stands at its leaves, and how it is read
  pub marks : marks_in scanners.labelled_by ending ≡ Leaf ∷ Star ∷ Leaf ∷ []
  pub leaves : leaves_in scanners.labelled_by ending ≡ ending_leaves
  pub reads : Reads (marks_in scanners.labelled_by ending) expression 0 3 0 2 ending_tree
  -- threshold 2, length 3, and only its lists wanted
  pub matching :
      said (session 2 3 ∷ next_ending ∷ next_ending ∷ next_ending ∷ [])
      ≡ accepted ∷ pattern (10 ∷ 30 ∷ []) 2 ∷ pattern (30 ∷ []) 3 ∷ end ∷ []
