mod InvokeLemmas
