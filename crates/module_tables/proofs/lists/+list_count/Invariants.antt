use Rattle.module_tables.proofs.lists.+list_count.Given as goal

abbrev pub decreases-list_count : goal.decreases-list_count
decreases-list_count l = l.n
