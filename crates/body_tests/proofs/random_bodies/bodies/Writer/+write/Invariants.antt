use Rattle.body_tests.proofs.random_bodies.bodies.Writer.+write.Given as goal

-- what a letter means has one step less
abbrev pub decreases-write : goal.decreases-write
decreases-write l = l.depth
